pub mod Private
pub mod Rows
