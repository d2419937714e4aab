pub mod Lines
pub mod Words
pub mod Kinds
pub mod Reading
pub mod Laws
pub mod Left
