pub mod Extending
pub mod Laws
