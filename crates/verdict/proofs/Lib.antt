pub mod Rounds
pub mod Verdicts
