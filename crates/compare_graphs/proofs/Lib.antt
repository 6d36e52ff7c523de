pub mod Fits
pub mod Pairs
