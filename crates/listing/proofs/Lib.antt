pub mod CollectLaws
pub mod KindLaws
pub mod PartLaws
pub mod DayLaws
pub mod SecondLaws
