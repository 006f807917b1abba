pub mod Runs
pub mod Bits
pub mod Ranges
pub mod Parts
pub mod Slices
