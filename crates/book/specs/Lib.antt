pub mod Book
pub mod Private
