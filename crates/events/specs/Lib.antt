-- What an event must leave.
pub mod Event
pub mod Examples
pub mod NeverSent
pub mod OnlyGreatest
