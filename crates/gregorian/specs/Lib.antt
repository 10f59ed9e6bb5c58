pub mod Year
pub mod Month
pub mod Days
pub mod Inner
