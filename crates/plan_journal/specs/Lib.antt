pub mod Entries
pub mod Gives
pub mod Left
pub mod Printable
pub mod Reading
