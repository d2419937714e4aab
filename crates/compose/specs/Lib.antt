pub mod Acts
pub mod Playing
