pub mod Ended
pub mod Handed
pub mod Running
pub mod Serving
pub mod Summed
