pub mod Naming
pub mod Spacing
