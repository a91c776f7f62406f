pub mod Lead
pub mod Sequence
pub mod Split
