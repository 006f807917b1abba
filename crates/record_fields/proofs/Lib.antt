pub mod Fields
pub mod Chains
