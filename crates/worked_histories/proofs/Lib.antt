-- Computed histories of three offices with document 01's weights.
-- the rehearsal of document 01, a move of weight, and a list of calls that folds
pub mod Rehearsed
-- what would be false of messages twice and in either order (vi), of counts across two offices (xi), and of lost edits
pub mod Relayed
pub mod AcrossOffices
pub mod LostEdits
