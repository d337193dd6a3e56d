pub mod Addresses
pub mod Messages
pub mod Streams
pub mod Tables
