-- What is within its bounds, and what a fresh state is.
pub mod Answers
pub mod Bounds
pub mod CongestionEvent
pub mod Cycle
pub mod Faults
pub mod NetworkModel
pub mod Params
pub mod Parts
pub mod Refusals
