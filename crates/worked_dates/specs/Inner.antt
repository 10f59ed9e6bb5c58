pub mod Cases
pub mod Ends
pub mod Worked
pub mod Written
