pub mod Order
pub mod Sought
pub mod Stream
pub mod Tally
