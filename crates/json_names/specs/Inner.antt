pub mod Names
pub mod Order
pub mod Room
pub mod Slashes
pub mod Walked
