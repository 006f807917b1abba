pub mod Next
mod Words
