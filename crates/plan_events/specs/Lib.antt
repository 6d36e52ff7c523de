pub mod Kinds
pub mod Shapes
pub mod Clashes
pub mod Holdings
pub mod Spots
