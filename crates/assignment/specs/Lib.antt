-- Request C-15: registers set before use.
pub mod Answers
pub mod Rest
pub mod Meaning
