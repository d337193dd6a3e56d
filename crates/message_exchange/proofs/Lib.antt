pub mod Composed
pub mod Holding
pub mod Pong
pub mod Reread
pub mod RoundTrip
