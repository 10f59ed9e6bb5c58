pub mod Refusal
pub mod Opens
