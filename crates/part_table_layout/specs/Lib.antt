pub mod Lookup
pub mod Pairs
pub mod Table
pub mod Three
