-- What the functions of time.rt, bandwidth.rt and refusal.rt must answer. And how a statement speaks of a contract.
pub mod Bandwidth
pub mod Outcomes
pub mod Reply
pub mod Time
