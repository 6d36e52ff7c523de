pub mod Robots
pub mod Kept
