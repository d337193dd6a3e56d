pub mod Digits
pub mod Test
