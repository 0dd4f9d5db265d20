-- What the questions about an event must answer.
pub mod Examples
pub mod Judge
