-- The laws of summaries, and of the walks over a log.
pub mod Laws
