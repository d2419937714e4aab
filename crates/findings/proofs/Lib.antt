pub mod Passes
pub mod Parts
pub mod Naming
pub mod Whole
