pub mod Begun
pub mod Faults
pub mod Said
pub mod Status
pub mod Steps
pub mod Watching
pub use Rattle.pdc_sockets.specs as pdc_sockets
