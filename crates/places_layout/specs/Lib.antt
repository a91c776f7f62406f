pub mod Answers
pub mod Handed
pub mod Parts
pub mod Placed
pub mod Read
