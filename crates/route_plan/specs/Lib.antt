pub mod Labels
pub mod Tight
pub mod Incoming
pub mod Search
