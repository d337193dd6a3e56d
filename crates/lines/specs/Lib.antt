pub mod Addresses
pub mod Cut
pub mod Lines
pub mod Messages
pub mod Nested
