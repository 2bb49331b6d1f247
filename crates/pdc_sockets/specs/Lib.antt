pub mod Concentrator
pub mod Faults
pub mod Links
pub mod Listeners
pub mod Outputs
pub mod Silent
