pub mod Amount
pub mod Length
pub mod Inner
