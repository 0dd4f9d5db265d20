-- Laws, and theorems about the contracts and about runs.
pub mod Averages
pub mod Lengths
pub mod Exact
pub mod Examples
pub mod Determined
