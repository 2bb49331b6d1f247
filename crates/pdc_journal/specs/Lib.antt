pub mod Among
pub mod Complaint
pub mod Head
pub mod Histogram
pub mod Lines
pub mod Moment
pub mod Spell
pub mod Presence
