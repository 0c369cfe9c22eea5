-- Laws of the household sheet.
pub mod Made
pub mod Claims
pub mod Cases
