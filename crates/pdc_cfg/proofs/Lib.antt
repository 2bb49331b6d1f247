pub mod Shapes
pub mod Sections
pub mod Configs
pub mod Faults
pub mod Parts
pub use Rattle.pdc_frame.proofs as pdc_frame
