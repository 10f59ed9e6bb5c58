pub mod Surrogates
pub mod Answer
pub mod Inner
