pub mod Openings
pub mod Queries
