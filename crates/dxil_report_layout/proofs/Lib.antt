pub mod Agreed
pub mod Steps
