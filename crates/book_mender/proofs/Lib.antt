pub mod Becoming
pub mod Examples
pub mod Going
pub mod Moved
pub mod Putting
pub mod RightBook
