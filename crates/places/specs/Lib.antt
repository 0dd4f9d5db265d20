-- Which argument of a call of a run is at fault.
pub mod Places
