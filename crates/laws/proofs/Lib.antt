-- Proofs of the laws, call by call.
pub mod Model
pub mod Events
pub mod Tested
pub mod Phases
pub mod Contracts
pub mod Replies
pub mod Named
pub mod Reasons
pub mod Examples
