pub mod Freed
pub mod Search
