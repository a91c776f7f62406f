pub mod Choices
pub mod Numbers
pub mod Searches
pub mod Stretches
pub mod Sums
pub mod Verdicts
