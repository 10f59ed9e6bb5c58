pub mod Ends
pub mod Found
pub mod Told
