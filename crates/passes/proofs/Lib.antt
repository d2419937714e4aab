pub mod Parting
pub mod Names
pub mod Headings
pub mod Entries
pub mod Amounts
pub mod Fit
