-- Laws on traces.
pub mod Steps
pub mod Occur
pub mod Streams
pub mod Moves
pub mod Ran
pub mod Pieces
pub mod Whole
pub mod Fed
pub mod Answers
pub mod Back
pub mod Laws
pub mod Examples
pub mod Determined
