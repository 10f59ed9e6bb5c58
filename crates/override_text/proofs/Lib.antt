pub mod EntryLaws
pub mod ListLaws
pub mod NameLaws
pub mod PatchLaws
mod WalkLaws
pub mod RangeLaws
