pub mod AbsentWords
pub mod Bodies
mod CutWords
pub mod Cuts
pub mod Words
pub mod Writes
pub use Rattle.pdc_cfg.proofs as pdc_cfg
pub use Rattle.pdc_cfg.proofs.pdc_frame
