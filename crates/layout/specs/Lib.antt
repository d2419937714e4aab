pub mod Refusals
pub mod Spots
pub mod Meaning
pub mod Calls
pub mod Runs
