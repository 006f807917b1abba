mod Entries
mod Rounding
