pub mod Items
pub mod Numbering
pub mod Shown
pub mod Script
pub mod Texts
pub mod Manners
pub mod Walking
pub mod Tellers
