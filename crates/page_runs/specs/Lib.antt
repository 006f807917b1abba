pub mod Around
pub mod Found
