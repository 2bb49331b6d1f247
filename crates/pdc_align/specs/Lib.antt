pub mod Align
pub mod Calls
pub mod Kept
pub mod Popped
pub mod Slot
pub mod State
pub mod Follows
pub use Rattle.pdc_arrival.specs as pdc_arrival
pub use Rattle.pdc_arrival.specs.pdc_life
pub use Rattle.pdc_arrival.specs.pdc_row
pub use Rattle.pdc_arrival.specs.pdc_frame
pub use Rattle.pdc_table.specs as pdc_table
pub use Rattle.pdc_arrival.specs.pdc_cfg
pub use Rattle.pdc_table.specs.pdc_memory
