-- Laws, and theorems about the contracts.
pub mod Room
pub mod Determined
pub mod Examples
pub mod NeverSent
pub mod OnlyGreatest
