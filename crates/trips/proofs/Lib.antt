-- Laws, and theorems about the contracts and about runs.
pub mod Run
pub mod Returned
pub mod Determined
