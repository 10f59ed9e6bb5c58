pub mod Gather
pub mod Inner
