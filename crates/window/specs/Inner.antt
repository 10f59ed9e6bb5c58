pub mod Chunks
pub mod Handed
pub mod Lists
pub mod Next
pub mod Sorted
