pub mod Kinds
pub mod Figures
