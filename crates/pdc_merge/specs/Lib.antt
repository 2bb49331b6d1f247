pub mod Held
pub mod Cells
pub mod Merger
