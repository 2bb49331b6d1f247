pub mod Block
pub mod Laws
pub mod AbsentBlock
pub mod Stat
pub use Rattle.pdc_cfg.specs as pdc_cfg
pub use Rattle.pdc_cfg.specs.pdc_frame
