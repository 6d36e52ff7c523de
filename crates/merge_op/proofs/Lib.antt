pub mod Places
pub mod FirstFree
pub mod Beginnings
pub mod RemovableTails
