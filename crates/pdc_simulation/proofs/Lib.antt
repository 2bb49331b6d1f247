pub mod Runs
pub mod Taking
pub mod Configs
pub mod OneEach
pub mod Rising
pub mod Words
