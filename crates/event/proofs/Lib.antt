pub mod Begins
pub mod Limits
pub mod Numbers
pub mod ValueNumbers
pub mod Worked
