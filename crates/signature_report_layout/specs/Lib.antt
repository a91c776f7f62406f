pub mod Listed
pub mod Placed
pub mod Reported
