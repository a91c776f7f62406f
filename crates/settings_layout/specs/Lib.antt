pub mod Groups
pub mod Rules
pub mod File
pub mod Shown
pub mod Laid
pub mod Given
pub mod Checked
