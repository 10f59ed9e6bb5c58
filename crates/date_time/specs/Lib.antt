pub mod Picture
pub mod Parts
pub mod Local
pub mod Utc
