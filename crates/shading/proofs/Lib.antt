pub mod Shades
pub mod References
