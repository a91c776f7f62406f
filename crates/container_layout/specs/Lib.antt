pub mod Container
pub mod Placed
pub mod Report
pub mod Widened
