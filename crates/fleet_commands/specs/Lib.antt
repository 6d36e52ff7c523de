pub mod Commands
pub mod Examples
pub mod Gives
pub mod Keywords
pub mod Reading
pub mod Texts
pub mod UsedNames
