pub mod Growth
pub mod Gives
pub mod Pieces
