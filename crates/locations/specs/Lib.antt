-- Document 02, C-14: the lists of an answer, beneath what a word touches.
pub mod Canonical
pub mod Few
pub mod Lists
pub mod Form
