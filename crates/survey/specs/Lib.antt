-- The program that lists the functions of a compiled script, from bytes to the line of a function.
pub mod Lines
pub mod Claims
