-- Over the longest run: scripts in rotation, what they run, how long each waits, and the
-- whole outcome of a rehearsal.
pub mod Machine
pub mod Waits
pub mod Schedule
pub mod Paths
pub mod Bound
pub mod Trial
pub mod Rehearse
pub mod Flat
pub mod Accepting
pub mod Claims
pub mod Running
