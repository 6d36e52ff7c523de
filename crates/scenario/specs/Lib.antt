pub mod Scenarios
pub mod Parts
pub mod Canonical
