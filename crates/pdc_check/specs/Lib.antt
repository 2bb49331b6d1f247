pub mod Alone
pub mod Levels
pub mod Ports
pub mod Together
