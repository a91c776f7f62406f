pub mod Answer
pub mod Checked
pub mod Plain
pub mod Stretch
pub mod Written
