pub mod Tree
pub mod Finds
pub mod Integers
pub mod Faults
pub mod Begins
pub mod Inner
