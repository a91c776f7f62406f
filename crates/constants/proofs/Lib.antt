pub mod Editions
pub mod Names
