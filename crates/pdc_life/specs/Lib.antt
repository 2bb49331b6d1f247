pub mod Adoption
pub mod Answer
pub mod Arrival
pub mod CellData
pub mod Cells
pub mod CoreKind
pub mod Counts
pub mod Causes
pub mod Distinct
pub mod Frames
pub mod Gave
pub mod Genuine
pub mod Given
pub mod InTime
pub mod Laws
pub mod Life
mod Lives
pub mod Merger
pub mod MergerReading
mod Names
pub mod Node
pub mod NodeReading
pub mod OneLife
pub mod Published
pub mod Reading
pub mod Row
pub mod Run
pub mod Sections
pub mod Tagged
pub mod Texts
pub mod Vectors
pub mod Views
pub use Rattle.pdc_row.specs as pdc_row
pub use Rattle.pdc_row.specs.pdc_frame
pub use Rattle.pdc_row.specs.pdc_block
pub use Rattle.pdc_row.specs.pdc_cfg
