-- Laws, and theorems about the contracts.
pub mod Run
pub mod Times
pub mod Determined
