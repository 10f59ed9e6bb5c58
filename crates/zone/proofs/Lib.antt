pub mod RangeLaws
pub mod OrderLaws
pub mod TableLaws
pub mod PassLaws
pub mod LookupLaws
pub mod HintLaws
pub mod SearchLaws
pub mod Halving
pub mod Worked
mod Machine
