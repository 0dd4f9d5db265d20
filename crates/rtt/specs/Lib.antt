-- What the round-trip estimator must answer, and how far its averages can be from exact ones.
pub mod Rtt
pub mod Exact
pub mod Examples
