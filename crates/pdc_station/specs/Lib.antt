pub mod Calls
pub mod Published
pub mod Station
pub use Rattle.pdc_publisher.specs as pdc_publisher
