pub mod Bounds
pub mod Lists
pub mod Members
pub mod Parts
pub mod Places
pub mod Reads
pub mod Types
