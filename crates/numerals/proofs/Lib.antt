pub mod Lengths
pub mod Greedy
