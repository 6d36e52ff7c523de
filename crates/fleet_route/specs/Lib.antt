pub mod Answers
pub mod Form
pub mod Stops
pub mod Texts
