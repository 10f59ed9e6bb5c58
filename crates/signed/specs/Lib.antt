pub mod Parts
pub mod Place
