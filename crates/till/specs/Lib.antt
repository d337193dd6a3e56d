pub mod Private
pub mod Till
