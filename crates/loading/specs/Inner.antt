pub mod Limit
pub mod Loads
pub mod Patches
pub mod Rules
