pub mod Hex
pub mod Frame
pub mod Step
pub mod Raw
pub mod Load
pub mod Save
pub mod Lines
