pub mod Block
pub mod Blocks
pub mod Needs
pub mod Rules
pub mod Words
