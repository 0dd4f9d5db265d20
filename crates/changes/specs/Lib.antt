-- What the calls that change the model must leave.
pub mod Changes
