pub mod Lines
pub mod Claims
pub mod Examples
