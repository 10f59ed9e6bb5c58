pub mod Walk
pub mod Strings
pub mod Inner
