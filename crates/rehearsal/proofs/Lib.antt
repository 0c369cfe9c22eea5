-- Laws of the rehearsal.
pub mod Says
pub mod Feeds
pub mod Inputs
