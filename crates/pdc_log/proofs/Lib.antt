pub mod Adding
pub mod Fronts
