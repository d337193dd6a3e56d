pub mod Features
pub mod Groups
pub mod Layout
pub mod Message
pub mod Private
pub mod Replies
