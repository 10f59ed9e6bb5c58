pub mod Columns
pub mod Good
pub mod Refused
