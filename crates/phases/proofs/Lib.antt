-- Laws, and theorems about the contracts.
pub mod Accepted
pub mod Determined
