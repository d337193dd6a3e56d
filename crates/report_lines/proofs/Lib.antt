pub mod Decimal
pub mod Putting
pub mod LineLaws
pub mod Sizes
