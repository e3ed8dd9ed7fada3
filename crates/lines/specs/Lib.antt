-- A function by number or by place: its words, lines and head.
pub mod Choices
pub mod Ldebug
pub mod Lines
pub mod Heads
pub mod Examples
