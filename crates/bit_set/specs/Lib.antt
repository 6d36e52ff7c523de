pub mod GivenBack
pub mod Marks
pub mod Words
