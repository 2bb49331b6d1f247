-- The mark that a disk holds, and why one is refused.
pub mod Counts
pub mod DiskMark
pub mod Faults
pub mod Found
pub mod ModelMark
pub mod OldMark
pub mod Slots
pub mod Stops
pub mod Stored
pub mod Stores
pub mod VersionOne
