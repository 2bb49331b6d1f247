-- What a device that failed leaves.
pub mod Answers
pub mod Failures
pub mod Heard
pub use Rattle.pdc_arrival.specs as pdc_arrival
