pub mod Chosen
pub mod ColumnParts
pub mod Giving
pub mod Layout
pub mod Parts
pub mod Taking
pub mod Twin
pub mod Views
pub use Rattle.pdc_row.specs as pdc_row
pub use Rattle.pdc_row.specs.pdc_block
pub use Rattle.pdc_row.specs.pdc_cfg
pub use Rattle.pdc_memory.specs as pdc_memory
