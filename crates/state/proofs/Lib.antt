-- Laws, and theorems about the contracts.
pub mod Causes
pub mod Complete
pub mod FirstFault
pub mod Laws
pub mod Rows
pub mod Settling
pub mod Determined
