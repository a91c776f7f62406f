pub mod Boxes
pub mod Counts
pub mod Joined
pub mod Rows
pub mod Splits
