pub mod Bounds
pub mod Counts
pub mod Pointers
pub mod Swept
