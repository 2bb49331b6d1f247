pub mod Places
pub mod Spellings
pub mod Wholes
mod Claims
pub mod Streams
pub mod Written
pub mod Splitting
pub mod Readings
pub mod Framed
pub mod Seconds
pub mod NearestLemmas
pub mod SlotLemmas
pub mod TagLemmas
pub mod CommandReadings
pub use Rattle.pdc_words.proofs.Cells
pub use Rattle.pdc_words.proofs.Polynomials
