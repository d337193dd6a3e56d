pub mod Digits
pub mod Lists
pub mod Test
