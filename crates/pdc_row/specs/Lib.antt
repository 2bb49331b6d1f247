pub mod CellView
pub mod Chosen
pub mod KeptBlocks
pub mod KnownFront
pub mod Quality
pub mod Rising
pub mod RisingLaws
pub mod RowView
pub mod Shown
pub use Rattle.pdc_block.specs as pdc_block
pub use Rattle.pdc_block.specs.pdc_cfg
pub use Rattle.pdc_block.specs.pdc_frame
pub mod Laws
pub mod Layout
