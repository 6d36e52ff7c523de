pub mod Known
pub mod Own
pub mod Through
pub mod Passes
pub mod Lists
