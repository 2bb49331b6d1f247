pub mod Presence
pub mod Within
pub mod Agreement
pub mod Age
pub mod Delays
