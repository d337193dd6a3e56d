pub mod Accepted
pub mod Filling
pub mod Seeking
