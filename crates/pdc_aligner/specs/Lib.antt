-- What the aligner puts, tick by tick.
pub mod Aligning
pub mod Device
pub mod Exact
pub mod Keeping
pub mod Laid
pub mod Opened
pub mod Rate
pub mod Sequence
pub mod Turns
