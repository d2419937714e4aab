pub mod Roman
pub mod Numeral
pub mod Sound
pub mod Heading
pub mod Same
