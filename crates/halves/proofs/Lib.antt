pub mod DigitLaws
pub mod DivisionLaws
pub mod Exact
pub mod Examples
pub mod Laws
