pub mod Said
pub mod Brent
pub mod Runs
pub mod Examples
