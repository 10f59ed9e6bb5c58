pub mod Sorted
pub mod Numbers
