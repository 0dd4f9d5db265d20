-- Proofs of the drift.
pub mod OneEffect
pub mod Beta
pub mod Blind
pub mod Others
pub mod Runs
pub mod Inflight
pub mod Bandwidth
pub mod Returned
pub mod Usual
pub mod Examples
