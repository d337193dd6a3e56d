pub mod Answers
pub mod Copied
pub mod Faults
pub mod Placed
pub mod Places
pub mod Sifting
pub mod Turning
pub mod Turns
