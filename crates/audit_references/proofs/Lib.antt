pub mod Ranges
pub mod References
