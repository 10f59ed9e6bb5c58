pub mod Computed
pub mod YearLaws
pub mod MonthLaws
pub mod DayLaws
pub mod RoundTrips
pub mod SecondLaws
pub mod Worked
