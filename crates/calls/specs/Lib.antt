-- What a call asks for, by its number.
pub mod Ask
pub mod Change
pub mod Enter
pub mod Question
pub mod Unknown
