pub mod Outcomes
pub mod ReadBack
