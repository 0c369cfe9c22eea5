-- The definitions that the contracts of `moved_weights` cite.
pub mod NoMove
