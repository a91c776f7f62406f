pub mod Choice
pub mod Number
pub mod Search
pub mod Stretch
pub mod Sum
pub mod Verdict
