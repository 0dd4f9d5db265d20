-- Laws, and theorems about the contracts.
pub mod Fits
pub mod Laws
pub mod Determined
