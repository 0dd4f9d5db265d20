-- What the functions of each file of src/ must answer.
pub mod Examples
pub mod Greatest
pub mod MaxBandwidthFilter
pub mod MinRttFilter
pub mod Reason
pub mod RoundTripCounter
pub mod WindowedFilter
