pub mod Pairs
pub mod Stepping
pub mod Joining
pub mod Splitting
pub mod Digits
pub mod Undo
pub mod Redo
