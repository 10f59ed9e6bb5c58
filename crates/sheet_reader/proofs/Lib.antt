pub mod GoodLaws
pub mod ColumnLaws
pub mod EveryLaws
