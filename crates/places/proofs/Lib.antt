pub mod Numbers
pub mod Queries
