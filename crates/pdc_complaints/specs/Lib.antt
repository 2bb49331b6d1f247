pub mod Complaint
pub mod Said
pub use Rattle.pdc_life.specs as pdc_life
