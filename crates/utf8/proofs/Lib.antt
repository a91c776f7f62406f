pub mod Machine
pub mod Marking
pub mod One
pub mod Plain
pub mod Records
pub mod Rows
pub mod Stops
pub mod Table
