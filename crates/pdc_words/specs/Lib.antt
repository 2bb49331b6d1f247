pub mod Bytes
pub mod Fronts
pub mod CheckWord
pub mod Linear
pub mod Lanes
pub mod Parts
