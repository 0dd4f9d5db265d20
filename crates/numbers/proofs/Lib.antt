-- Laws of the conversions, for the proofs of this crate and of those above it.
pub mod Closest
pub mod Rounding
pub mod Count
pub mod Spare
pub mod Fields
pub mod Away
pub mod Between
pub mod ScaleLaws
pub mod Complement
pub mod Reference
pub mod Determined
