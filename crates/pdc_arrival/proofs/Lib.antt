pub mod Beside
pub mod Listed
mod Claims
pub mod OwnStamp
mod Counting
mod Worked
pub use Rattle.pdc_life.proofs as pdc_life
pub use Rattle.pdc_life.proofs.pdc_row
pub use Rattle.pdc_life.proofs.pdc_block
pub use Rattle.pdc_life.proofs.pdc_cfg
pub use Rattle.pdc_life.proofs.pdc_frame
