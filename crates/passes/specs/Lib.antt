pub mod Next
pub mod Entries
pub mod Fit
