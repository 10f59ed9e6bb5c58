pub mod Flags
pub mod Layout
pub mod Marks
pub mod Member
pub mod Rows
pub mod Walk
