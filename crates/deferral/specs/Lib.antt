pub mod Backlogs
pub mod Codes
pub mod Kept
pub mod Laws
pub mod Matrices
pub mod Tallies
