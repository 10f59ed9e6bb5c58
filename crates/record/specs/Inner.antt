pub mod Rows
pub mod Utc
pub mod Occurrences
