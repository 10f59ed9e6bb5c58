pub mod Runs
pub mod Records
pub mod Writing
pub mod Reading
pub mod Fetching
