pub mod Rests
pub mod Plan
