pub mod Openings
pub mod Prints
pub mod Wholes
