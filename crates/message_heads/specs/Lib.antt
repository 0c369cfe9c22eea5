-- The definitions that the contracts of `message_heads` cite.
pub mod Heads
