pub mod Weeks
pub mod Replay
pub mod Sums
pub mod Calendar
pub mod Touching
pub mod Inner
