pub mod Boxes
pub mod Floats
pub mod Roots
pub mod Steps
