pub mod Acting
pub mod Driving
