pub mod Private
pub mod Shortest
