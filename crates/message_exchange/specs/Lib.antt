pub mod Pong
pub mod Same
