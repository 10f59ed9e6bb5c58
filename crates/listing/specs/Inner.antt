pub mod Chunks
pub mod Kinds
pub mod Lists
pub mod Parts
