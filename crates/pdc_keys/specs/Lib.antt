pub mod Keys
pub mod Known
pub mod Near
pub mod Places
pub mod Table
pub mod Unknown
pub mod Wanting
pub use Rattle.pdc_memory.specs as pdc_memory
