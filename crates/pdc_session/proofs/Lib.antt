pub mod Hearing
pub mod Kept
pub mod Recents
pub mod Served
pub mod Following
