-- Equal sheets, proved.
pub mod EqualSheets
