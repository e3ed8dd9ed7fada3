-- Layer 3: the meter, the reference model, and demand 3.
pub mod Feed
pub mod Model
pub mod Calls
pub mod Highest
pub mod Bound
pub mod Demand3
pub mod Earlier
pub mod Changing
pub mod Order
pub mod Laws
