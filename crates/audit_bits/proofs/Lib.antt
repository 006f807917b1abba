pub mod BlockRules
pub mod Masks
pub mod SpanWords
pub mod Stretches
pub mod Turns
pub mod Words
