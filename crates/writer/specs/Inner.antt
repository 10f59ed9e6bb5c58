pub mod Details
pub mod Table
pub mod Writes
