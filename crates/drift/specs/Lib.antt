-- Runs of calls, and how far the lower bounds can have moved.
pub mod Calls
pub mod Exact
pub mod Drift
pub mod Returned
pub mod Examples
