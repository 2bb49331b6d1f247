pub mod Deadlines
pub mod Instants
pub mod Paces
pub mod Ticks
pub mod Waiting
pub mod Woken
