-- What is under the lock of a running core, what its steps count, and what a receiver hears.
pub mod Adding
pub mod Closing
pub mod Counted
pub mod Cut
pub mod Faults
pub mod Kept
pub mod Opened
pub mod Pops
pub mod Received
pub mod Replay
pub use Rattle.pdc_memory.specs as pdc_memory
