pub mod Bools
pub mod Counting
pub mod DayLaws
pub mod PeriodLaws
pub mod GivesLaws
