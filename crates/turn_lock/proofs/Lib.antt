pub mod Lists
pub mod Keeps
pub mod Resting
pub mod Wholes
