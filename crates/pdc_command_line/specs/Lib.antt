pub mod MarkInit
pub mod Number
