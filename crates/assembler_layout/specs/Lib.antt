pub mod Answer
pub mod Assembled
