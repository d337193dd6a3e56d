pub mod Month
pub mod Private
pub mod Run
