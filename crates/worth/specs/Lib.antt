-- Runs of a windowed filter, and what its estimates are worth.
pub mod Worth
pub mod Returned
pub mod Examples
