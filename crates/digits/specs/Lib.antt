pub mod Digits
pub mod Fraction
pub mod Inner
