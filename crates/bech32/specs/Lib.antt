pub mod Alphabet
pub mod Checksum
pub mod Groups
pub mod Private
