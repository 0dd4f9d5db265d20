-- Proofs of what the estimates are worth.
pub mod Worth
pub mod Returned
pub mod Examples
