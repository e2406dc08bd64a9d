pub mod Strokes
pub mod Limits
pub mod Refusals
pub mod Making
pub mod Jitter
pub mod Rows
pub mod RowNumbers
pub mod Values
