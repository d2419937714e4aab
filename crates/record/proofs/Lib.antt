pub mod Fronts
pub mod Padding
pub mod Places
pub mod Whole
pub mod Filling
pub mod Apart
pub mod Facts
