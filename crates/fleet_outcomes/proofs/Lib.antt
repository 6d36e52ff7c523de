pub mod Acting
pub mod Chains
pub mod Detours
pub mod Following
pub mod Judging
pub mod KeptStops
pub mod Ways
