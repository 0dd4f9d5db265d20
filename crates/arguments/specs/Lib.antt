-- What a call is given, in words.
pub mod Params
pub mod CongestionEvent
pub mod Sample
pub mod Alike
pub mod Tested
