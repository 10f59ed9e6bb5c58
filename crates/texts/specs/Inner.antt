pub mod Shown
pub mod Dated
