pub mod TrackLaws
pub mod MarkLaws
pub mod FillLaws
pub mod SetLaws
pub mod LoadLaws
