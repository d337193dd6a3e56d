pub mod Back
pub mod Parts
pub mod Writer
