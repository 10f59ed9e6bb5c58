pub mod PartLaws
pub mod TextLaws
pub mod EventLaws
pub mod DateLaws
pub mod LookLaws
pub mod CallLaws
