-- What a run of the windowed filter replies and writes.
pub mod Inner
pub mod Pairs
