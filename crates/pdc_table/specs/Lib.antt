pub mod AgesView
pub mod Calls
pub mod Closing
pub mod Content
pub mod Histories
pub mod KeptRow
pub mod OpenInstants
pub mod Placing
pub mod Ring
pub mod RingRows
pub mod Steps
pub mod TableView
pub use Rattle.pdc_open_row.specs as pdc_open_row
pub use Rattle.pdc_open_row.specs.pdc_columns
pub use Rattle.pdc_open_row.specs.pdc_memory
