pub mod Lookups
pub mod Plays
pub mod Numbers
pub mod Walks
