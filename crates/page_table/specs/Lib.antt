pub mod Span
