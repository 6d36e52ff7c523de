pub mod Causes
pub mod Ready
mod Taking
