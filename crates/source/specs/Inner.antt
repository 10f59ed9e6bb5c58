pub mod Asked
pub mod Listed
pub mod Marks
pub mod Room
