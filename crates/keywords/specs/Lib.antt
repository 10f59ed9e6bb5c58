pub mod Marks
pub mod Rules
pub mod Months
