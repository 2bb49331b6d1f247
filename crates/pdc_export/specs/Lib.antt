pub mod Exported
pub mod Plain
