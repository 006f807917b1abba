pub mod Allocate
pub mod Around
mod Runs
