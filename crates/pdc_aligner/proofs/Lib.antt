mod Devices
mod ExactFrames
pub mod Laying
mod Rates
mod Sequences
pub mod Ticking
