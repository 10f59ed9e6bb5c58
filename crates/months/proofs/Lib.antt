pub mod RowLaws
mod WeekLaws
