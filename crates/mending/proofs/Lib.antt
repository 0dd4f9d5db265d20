-- Laws on mended traces.
pub mod Lines
pub mod Sifting
pub mod Runs
pub mod Answers
pub mod Steps
pub mod Kept
pub mod Beside
pub mod Bytes
pub mod Fed
pub mod Laws
pub mod Determined
pub mod Examples
