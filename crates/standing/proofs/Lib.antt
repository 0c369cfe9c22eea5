-- Laws that belong to no one function.
pub mod Table
pub mod Rise
pub mod Answer
pub mod Claims
pub mod Cases
