-- Demand 3, proved.
pub mod Places
pub mod View
pub mod Held
pub mod Founded
pub mod Issued
pub mod Sent
pub mod Taken
pub mod Elected
pub mod Folded
pub mod Numbers
pub mod Follows
pub mod Demand
pub mod Calls
pub mod Start
pub mod ThreeOffices
