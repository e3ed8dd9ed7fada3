pub mod Order
pub mod Ranges
pub mod Rising
pub mod Unique
pub mod Answers
pub mod Held
