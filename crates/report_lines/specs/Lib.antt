pub mod Private
pub mod Text
pub mod Lines
