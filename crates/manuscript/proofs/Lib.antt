pub mod Tables
pub mod Danglings
pub mod Labelling
pub mod Keeping
pub mod Completing
