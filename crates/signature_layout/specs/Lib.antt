pub mod Named
pub mod Signature
