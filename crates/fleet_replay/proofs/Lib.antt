pub mod Again
mod Faults
pub mod Journals
pub mod Lines
pub mod Printables
pub mod Runs
pub mod ShortLines
pub mod Stops
pub mod Told
