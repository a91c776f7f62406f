pub mod Machine
pub mod Marks
pub mod One
pub mod Referred
