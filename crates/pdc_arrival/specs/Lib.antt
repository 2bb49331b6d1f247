pub mod Heard
pub mod Placing
pub mod Views
pub mod Claimed
pub mod Counts
pub mod Stamps
pub use Rattle.pdc_life.specs as pdc_life
pub use Rattle.pdc_life.specs.pdc_row
pub use Rattle.pdc_life.specs.pdc_block
pub use Rattle.pdc_life.specs.pdc_cfg
pub use Rattle.pdc_life.specs.pdc_frame
