-- Theorems about the contracts, and laws for their proofs.
pub mod Determined
pub mod Examples
pub mod Rows
pub mod ModelRun
pub mod FilterRun
pub mod RttRun
