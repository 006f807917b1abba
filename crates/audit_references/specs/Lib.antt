pub mod References
pub mod Kept
