pub mod ChangeNumbers
pub mod Held
pub mod Ranges
