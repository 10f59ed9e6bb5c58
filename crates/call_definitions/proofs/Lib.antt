pub mod Same
pub mod DemandThree
pub mod UtcLaws
pub mod DemandTwo
pub mod Few
pub mod Invalid
