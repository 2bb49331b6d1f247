pub mod Passed
pub mod Unkept
