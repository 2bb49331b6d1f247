pub mod Due
pub mod Row
pub mod Streams
pub mod Taking
pub mod Twin
pub mod Views
pub use Rattle.pdc_columns.specs as pdc_columns
pub use Rattle.pdc_columns.specs.pdc_row
pub use Rattle.pdc_columns.specs.pdc_block
pub use Rattle.pdc_columns.specs.pdc_cfg
pub use Rattle.pdc_columns.specs.pdc_memory
