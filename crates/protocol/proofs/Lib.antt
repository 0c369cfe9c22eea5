-- Cases computed on document 01's definitions, as document 02 has changed them, and the worlds that they run in. The laws are in `protocol_laws`.
-- the lettered cases, and those of the requests
pub mod Cases
pub mod MoveCases
pub mod QuieterCases
pub mod FairCases
pub mod CodeCases
-- offices and messages together: the world of demand 3 (its theorem is in crate `one_order`)
pub mod World
-- request (xiv): what is kept of dropped entries, and the world with folding
pub mod Effects
pub mod FoldedWorld
pub mod FoldedCases
