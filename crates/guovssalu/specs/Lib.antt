-- What each exported call answers, and what it leaves in lent memory.
pub mod Conversions
pub mod Examples
pub mod FilterRun
pub mod ModelRun
pub mod Reply
pub mod RttRun
pub mod Slope
pub mod Inner
