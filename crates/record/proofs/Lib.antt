pub mod RowLaws
pub mod UtcLaws
pub mod OccurrenceLaws
pub mod WindowLaws
