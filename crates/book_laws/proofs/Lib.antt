pub mod LegalBooks
pub mod Answers
pub mod Calls
pub mod Clashes
