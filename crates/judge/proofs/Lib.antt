-- Laws, and theorems about the contracts.
pub mod Rows
pub mod Determined
pub mod Room
