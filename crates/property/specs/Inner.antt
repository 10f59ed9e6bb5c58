pub mod From
pub mod Place
pub mod Rows
pub mod Vocabulary
pub mod Words
