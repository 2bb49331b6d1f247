pub mod Scaled
pub mod Quantity
pub mod Field
pub mod Own
