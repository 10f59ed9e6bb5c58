pub mod ByteLaws
pub mod ReadLaws
pub mod BackLaws
pub mod LibraryLaws
pub mod WidthLaws
