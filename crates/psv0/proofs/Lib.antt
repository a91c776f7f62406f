pub mod Accepted
pub mod Openings
pub mod Recording
