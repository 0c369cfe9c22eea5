-- Demand 3 on lists: one order of edits behind all offices.
-- what is asked of the rule, the four invariants, each call, the theorem
pub mod Lawful
pub mod History
pub mod OneCall
pub mod Steady
pub mod Known
pub mod Issued
pub mod Settled
pub mod Invariant
pub mod Passing
pub mod IssueKeeps
pub mod TakeKeeps
pub mod ElectKeeps
pub mod EveryCall
pub mod Longest
pub mod OneOrder
pub mod FrameOrder
pub mod Machine
pub mod Held
-- request (vi): messages twice and in either order
pub mod Twice
pub mod Join
pub mod Swap
-- request (xiv): the world with folding has one order
pub mod FoldedSound
pub mod FoldedMoves
pub mod FoldedKeeps
pub mod FoldedOrder
pub mod FoldedKept
pub mod FoldedMachine
pub mod FoldedLaws
