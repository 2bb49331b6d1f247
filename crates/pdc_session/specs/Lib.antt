pub mod Recent
pub mod Served
pub mod Session
pub mod Client
pub mod Counted
pub mod Counting
pub mod Search
pub use Rattle.pdc_memory.specs as pdc_memory
