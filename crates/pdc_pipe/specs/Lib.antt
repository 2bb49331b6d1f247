-- What goes through the channel of a running core, the rule of the channel, and what the sender hands on.
pub mod HandedOn
pub mod Layout
pub mod Pipe
pub mod Sequence
pub mod Writing
pub use Rattle.pdc_memory.specs as pdc_memory
pub use Rattle.pdc_publisher.specs as pdc_publisher
