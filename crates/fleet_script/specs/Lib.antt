pub mod Carried
pub mod Form
pub mod Script
pub mod Sound
pub mod Stops
