pub mod Alike
pub mod Core
pub mod Fits
pub mod Said
pub mod Step
pub mod KeptArrival
pub mod Lent
pub use Rattle.pdc_align.specs.pdc_memory
