pub mod Opening
pub mod Placing
pub mod Reading
pub mod Walking
