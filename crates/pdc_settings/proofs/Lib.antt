pub mod Inputs
pub mod Tables
