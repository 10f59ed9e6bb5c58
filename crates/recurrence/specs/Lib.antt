pub mod Event
pub mod Occurs
pub mod Ids
pub mod Inner
