-- What the phase entries must leave.
pub mod Examples
pub mod Phases
pub mod Slope
