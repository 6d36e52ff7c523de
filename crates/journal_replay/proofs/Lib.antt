pub mod Counts
pub mod Differing
pub mod Gives
pub mod Proposals
pub mod Replans
pub mod Robots
pub mod Standing
