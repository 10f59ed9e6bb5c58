pub mod Puts
pub mod Visible
