-- Four scripts on one controller: their meters, the budget on the sum of their counts,
-- and what is claimed of them.
pub mod Four
pub mod Counts
pub mod Calls
pub mod Refusals
pub mod Alone
pub mod Never
pub mod Independent
