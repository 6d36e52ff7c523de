pub mod Kept
pub mod Names
pub mod Places
pub mod Things
