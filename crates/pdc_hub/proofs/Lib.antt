mod Counted
mod Held
pub mod Meeting
pub mod Receiving
pub mod Replays
