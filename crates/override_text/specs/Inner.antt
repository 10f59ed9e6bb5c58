pub mod Entries
pub mod Lists
pub mod Meaning
pub mod Names
pub mod Patched
