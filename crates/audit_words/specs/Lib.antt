pub mod Contents
pub mod Words
