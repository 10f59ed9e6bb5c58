pub mod Conditions
pub mod Sheet
pub mod One
pub mod Two
pub mod Three
pub mod Weeks
pub mod Reading
pub mod Promises
