-- Laws on the text of a trace.
pub mod Numbers
pub mod Splits
pub mod Lines
pub mod Examples
pub mod Determined
