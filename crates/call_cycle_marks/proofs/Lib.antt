pub mod Finishing
pub mod Marking
