-- The laws of document 01's definitions, as document 02 has changed them.
-- beginnings, the winning rule, the calls at one office
pub mod Beginning
pub mod Vote
pub mod Office
pub mod Elect
pub mod Moves
pub mod Frames
pub mod Codes
pub mod Counts
pub mod Quieter
pub mod Fair
pub mod Limits
pub mod Issue
pub mod FiveFirst
-- request (xiv): what is kept of dropped entries, each call on whole logs, the limits
pub mod Kept
pub mod Whole
pub mod Folding
pub mod FoldedLimits
