pub mod Numbers
pub mod Beginnings
pub mod Sayings
pub mod Entries
