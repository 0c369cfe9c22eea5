-- Document 01's rules on lists, as document 02 has changed them.
pub mod Entry
pub mod Beginning
pub mod Vote
pub mod Winning
pub mod Office
pub mod Moves
pub mod Counts
pub mod Fair
pub mod Limits
pub mod SettledRule
pub mod Issue
pub mod Take
pub mod Elect
pub mod Folding
pub mod Frames
pub mod Codes
pub mod Longest
