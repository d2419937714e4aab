pub mod Lines
pub mod LineLaws
pub mod Filling
pub mod FillerLaws
pub mod Forming
pub mod FormLaws
pub mod Examples
