pub mod Objects
pub mod Events
pub mod Accepted
pub mod FromHead
