pub mod Edition
pub mod Exact
pub mod Invoice
pub mod Private
