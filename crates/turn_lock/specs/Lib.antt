pub mod Locks
pub mod Turns
pub mod Places
