pub mod Draws
pub mod Grids
pub mod Generated
