pub mod BegunFronts
pub mod EarlySegments
pub mod Fronts
pub mod Runs
pub mod Sites
