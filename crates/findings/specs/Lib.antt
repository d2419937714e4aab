pub mod Made
pub mod Keeping
pub mod Next
pub mod Fitting
pub mod Laws
