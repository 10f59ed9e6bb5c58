pub mod Dates
pub mod Load
pub mod Loaded
pub mod Overrides
pub mod Stands
pub mod Tracked
