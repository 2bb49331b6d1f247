pub mod Polynomials
pub mod Powers
pub mod WordSteps
pub mod Cells
pub mod LongSteps
pub mod LinearLemmas
pub mod LaneSteps
pub mod FrontLemmas
