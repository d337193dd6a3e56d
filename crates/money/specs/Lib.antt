pub mod Amount
pub mod Exact
pub mod Units
