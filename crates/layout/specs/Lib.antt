-- The state in words.
pub mod Cycle
pub mod Form
pub mod NetworkModel
pub mod StateWords
