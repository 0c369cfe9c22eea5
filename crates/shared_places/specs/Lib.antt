-- The definitions that the contracts of `shared_places` cite.
pub mod FromEnd
