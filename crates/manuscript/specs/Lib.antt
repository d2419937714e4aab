pub mod Standing
pub mod Scanning
pub mod Checking
pub mod Values
pub mod Labelled
pub mod Rules
