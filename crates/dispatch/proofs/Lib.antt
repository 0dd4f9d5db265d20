-- Laws, and theorems about the contracts.
pub mod Alike
pub mod Examples
pub mod OneCall
pub mod ReadBack
pub mod RoundTrip
pub mod Determined
