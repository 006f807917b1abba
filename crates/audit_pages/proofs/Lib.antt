pub mod Pass
pub mod Stretches
