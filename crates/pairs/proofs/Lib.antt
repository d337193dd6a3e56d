pub mod Entering
pub mod Examples
pub mod InOrder
pub mod Laying
pub mod Order
pub mod Rising
