-- The laws of all calls, as statements.
pub mod Examples
pub mod Laws
pub mod Reasons
pub mod Replies
pub mod Named
