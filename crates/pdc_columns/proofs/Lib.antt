pub mod Alike
pub mod ColumnParts
pub mod CutParts
pub mod Exist
pub mod FrontRows
pub mod HeldOnce
pub mod Lent
pub mod RowSteps
pub mod Twins
pub mod WholeFrames
pub mod WholeRows
pub use Rattle.pdc_row.proofs as pdc_row
pub use Rattle.pdc_row.proofs.pdc_block
pub use Rattle.pdc_row.proofs.pdc_cfg
pub use Rattle.pdc_memory.proofs as pdc_memory
