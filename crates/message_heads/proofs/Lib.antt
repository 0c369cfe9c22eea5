-- Laws of the head of a message.
pub mod Heads
