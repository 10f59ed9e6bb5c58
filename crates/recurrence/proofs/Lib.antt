pub mod Ordered
pub mod Exactly
pub mod Candidates
pub mod Few
