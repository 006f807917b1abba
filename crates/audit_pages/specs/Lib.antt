pub mod Pass
pub mod Stacks
