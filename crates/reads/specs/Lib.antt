-- What the calls that only answer must answer.
pub mod Reads
