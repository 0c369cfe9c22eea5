-- Laws that belong to no one function.
pub mod Choices
pub mod Exact
pub mod Eight
pub mod Walks
pub mod Cases
pub mod Cast
