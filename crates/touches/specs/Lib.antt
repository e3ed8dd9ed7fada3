-- Document 02, C-14 and C-24: what each word really touches.
pub mod Isk
pub mod Words
pub mod Operands
pub mod Accesses
pub mod lua54
pub mod lua53
pub mod Cells
pub mod Versions
pub mod Touches
pub mod Touched
pub mod Meaning
pub mod Examples
pub mod Table
pub mod Laws
