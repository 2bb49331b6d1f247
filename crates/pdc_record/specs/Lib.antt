pub mod Answers
pub mod Told
pub mod Bodies
pub mod Carried
pub mod Entries
pub use Rattle.pdc_life.specs as pdc_life
pub use Rattle.pdc_frame.specs as pdc_frame
