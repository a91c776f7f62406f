pub mod Edition
pub mod Name
