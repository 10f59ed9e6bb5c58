pub mod Candidates
pub mod Order
pub mod Within
