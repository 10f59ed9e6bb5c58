pub mod Hint
