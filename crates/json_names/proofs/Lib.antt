pub mod Clean
pub mod Laws
pub mod Orders
pub mod Sorting
pub mod Walked
