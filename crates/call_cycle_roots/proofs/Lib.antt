pub mod Scanning
pub mod Starting
