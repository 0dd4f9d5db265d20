-- What the conversions mean, from the Rust Reference and Rust's documentation; and what it means that a contract
-- allows one reply.
pub mod IntToFloat
pub mod FloatToInt
pub mod FloatToFloat
pub mod Scaling
pub mod Examples
pub mod OneReply
pub mod Inner
