pub mod Tables
mod Wants
