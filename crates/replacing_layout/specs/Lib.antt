pub mod Answer
pub mod Judged
pub mod Replaced
