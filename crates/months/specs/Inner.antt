pub mod Kinds
pub mod Layout
pub mod Rows
pub mod Week
