-- Laws of what is printed of the tables.
pub mod Shown
pub mod Small
pub mod Settled
pub mod Written
pub mod Input
pub mod Printed
pub mod Long
pub mod Cases
