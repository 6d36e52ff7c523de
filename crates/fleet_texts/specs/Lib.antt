pub mod Answers
pub mod Samples
pub mod StateTexts
pub mod Texts
pub mod Words
