pub mod Agreed
pub mod Boxes
pub mod Steps
