pub mod Agreed
pub mod Boxes
pub mod Names
pub mod Placed
pub mod Steps
