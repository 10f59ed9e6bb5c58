pub mod Table
pub mod Lookup
pub mod Places
pub mod Search
pub mod Halving
pub mod Inner
