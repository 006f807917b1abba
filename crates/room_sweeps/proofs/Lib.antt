pub mod Loop
pub mod Around
pub mod Turns
pub mod Same
