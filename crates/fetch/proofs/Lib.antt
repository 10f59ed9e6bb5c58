pub mod PartLaws
pub mod FillLaws
