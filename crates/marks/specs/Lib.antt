pub mod Parts
pub mod Values
pub mod Whole
