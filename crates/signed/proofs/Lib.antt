pub mod Parts
pub mod PlaceLaws
