-- The world of demand 3 on records, log words and message bytes, and what is claimed of every list of calls in it.
pub mod World
pub mod Demand
pub mod Calls
