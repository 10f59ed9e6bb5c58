pub mod GatherLaws
pub mod HeldLaws
pub mod ZoneLaws
