pub mod Stops
pub mod Serving
pub mod Policies
pub mod Runs
pub mod Waiting
pub mod Outcomes
pub mod Examples
