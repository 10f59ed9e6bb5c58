pub mod Reads
pub mod Plain
