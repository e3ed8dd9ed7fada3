-- Beneath layer 2: steps, whatever instruction set gives them, their entries, and what the search and the
-- pass over the lengths make of them.
pub mod Steps
pub mod Entries
pub mod SearchInvariants
pub mod PassInvariants
pub mod Laws
