pub mod Boxes
pub mod Signatures
pub mod Steps
