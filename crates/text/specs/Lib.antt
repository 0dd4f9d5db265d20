-- A line of a trace, by its bytes. `line_of` (Line.antt) is what a reader has to believe.
pub mod Text
pub mod Number
pub mod Word
pub mod Inner
pub mod Fields
pub mod Line
pub mod Examples
