pub mod Boxes
pub mod Programs
