pub mod Form
pub mod Private
