pub mod WalkLaws
mod MarkLaws
mod WeekdayLaws
pub mod RowLaws
mod ImpliedLaws
mod MadeLaws
mod TermLaws
pub mod GiveLaws
pub mod PickLaws
