pub mod WordLaws
pub mod Laws
pub mod Skip
pub mod Blocks
pub mod Ahead
