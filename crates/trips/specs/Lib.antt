-- What a run of the round-trip estimator replies, answers and leaves.
pub mod Trips
pub mod Returned
