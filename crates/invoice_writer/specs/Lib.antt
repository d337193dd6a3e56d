pub mod Back
pub mod Private
pub mod Writer
