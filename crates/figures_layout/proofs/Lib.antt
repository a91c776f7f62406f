pub mod Tallies
pub mod Sums
pub mod Histories
pub mod Ranges
pub mod Counts
pub mod Complete
pub mod Boxes
pub mod Openings
