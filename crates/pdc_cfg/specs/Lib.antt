pub mod Shape
pub mod SectionBytes
pub mod Section
pub mod Config
pub mod Texts
pub use Rattle.pdc_frame.specs as pdc_frame
