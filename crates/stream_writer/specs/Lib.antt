pub mod Alike
pub mod Back
pub mod Triples
pub mod Writer
