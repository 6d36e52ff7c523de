pub mod Graphs
pub mod Reaches
pub mod Stores
pub mod Stored
pub mod Example
