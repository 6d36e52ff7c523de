pub mod Form
pub mod Tasks
pub mod Texts
