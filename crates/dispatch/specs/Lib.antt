-- What a call's words ask for, and what it leaves.
pub mod Examples
pub mod Inner
pub mod OneCall
pub mod OnlyGreatest
pub mod Outcome
pub mod RoundTrip
