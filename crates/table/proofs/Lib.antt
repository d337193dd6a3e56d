pub mod Cursor
pub mod Examples
pub mod Laws
pub mod NineLooks
pub mod Order
pub mod Rows
pub mod Searching
