pub mod Differing
pub mod Refusals
pub mod Taken
