-- Laws, and theorems about the contracts.
pub mod Alike
pub mod Acked
pub mod Tested
pub mod Determined
