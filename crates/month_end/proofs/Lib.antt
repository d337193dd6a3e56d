pub mod Columns
pub mod Room
