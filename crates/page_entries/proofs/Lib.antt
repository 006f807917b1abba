pub mod Entries
pub mod Flags
pub mod Search
