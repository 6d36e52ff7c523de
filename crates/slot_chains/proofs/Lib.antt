pub mod Pushes
pub mod Removals
