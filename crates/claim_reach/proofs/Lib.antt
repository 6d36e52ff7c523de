pub mod Conflicts
pub mod Widening
