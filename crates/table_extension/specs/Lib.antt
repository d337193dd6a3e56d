pub mod Extension
