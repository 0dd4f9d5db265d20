-- Laws, and theorems about the contracts.
pub mod Same
pub mod Determined
