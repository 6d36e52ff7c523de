pub mod Fills
pub mod Crossed
pub mod Counting
pub mod Drawn
pub mod Filling
pub mod Drilled
