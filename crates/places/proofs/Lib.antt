-- Laws, and theorems about the contracts.
pub mod Alike
pub mod Complete
pub mod Determined
