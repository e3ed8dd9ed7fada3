-- Why a file is refused, by its header.
pub mod Refusing
pub mod Examples
