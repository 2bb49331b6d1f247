pub mod TakenParts
pub use Rattle.pdc_columns.proofs as pdc_columns
pub use Rattle.pdc_columns.proofs.pdc_row
pub use Rattle.pdc_columns.proofs.pdc_block
pub use Rattle.pdc_columns.proofs.pdc_cfg
pub use Rattle.pdc_columns.proofs.pdc_memory
