-- Laws, and theorems about the contracts.
pub mod Outcomes
pub mod Determined
