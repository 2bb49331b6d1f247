-- A publisher, the frames that it publishes, and why it publishes none.
pub mod Faults
pub mod Published
pub mod PublishedRow
pub mod Publisher
