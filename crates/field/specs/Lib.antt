pub mod Fields
pub mod Private
