-- What the numbers of replies say.
pub mod Number
