pub mod Ends
pub mod Fields
pub mod Ranges
pub mod Readings
pub mod Shapes
pub mod RowLaws
pub mod Vocabularies
pub mod Words
