pub mod Bits
pub mod Scan
pub mod Search
pub mod FirstFree
pub mod Found
mod Zeros
