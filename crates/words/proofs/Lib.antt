-- Laws of stores and words, for the proofs of this crate and of those above it.
pub mod Determined
pub mod Stores
pub mod Back
pub mod Laws
pub mod Parts
pub mod Turns
