pub mod Adoption
pub mod CellData
pub mod Closing
pub mod Come
pub mod Exact
pub mod ExactRows
mod Filtered
pub mod Frames
pub mod Gave
pub mod Genuine
pub mod Held
pub mod InForce
pub mod InTime
pub mod LifeLaws
mod Lists
pub mod MergerReads
pub mod MergerRuns
mod Names
pub mod NextRow
pub mod NodeRuns
pub mod OneLife
pub mod OneReading
pub mod SameCount
mod Stages
mod Steps
pub mod Tagged
pub mod TakenIsGiven
pub mod Vectors
pub mod Worked
pub mod WorkedExact
pub mod WorkedMerger
pub mod WorkedOrder
pub mod Worst
pub use Rattle.pdc_row.proofs as pdc_row
pub use Rattle.pdc_row.proofs.pdc_frame
pub use Rattle.pdc_row.proofs.pdc_block
pub use Rattle.pdc_row.proofs.pdc_cfg
pub mod Causes
