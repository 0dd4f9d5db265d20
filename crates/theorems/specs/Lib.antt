-- The page of theorems, and what its statements are made of.
pub mod Steps
pub mod Rows
pub mod Blames
pub mod Runs
pub mod Casts
pub mod Rtt
pub mod Trace
pub mod Mend
pub mod Theorems
pub mod Examples
