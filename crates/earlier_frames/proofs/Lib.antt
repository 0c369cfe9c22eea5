-- Earlier frames, proved.
pub mod EarlierFrames
