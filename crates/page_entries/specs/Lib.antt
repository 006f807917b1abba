pub mod Needs
pub mod Kinds
pub mod Unswept
