-- The definitions that the contracts of `text_parts` cite.
pub mod Parts
