pub mod Floats
pub mod Payloads
