pub mod Numbers
pub mod Trees
pub mod Walked
mod RawLaws
