-- Laws on rows.
pub mod Decimals
pub mod Rows
pub mod Determined
