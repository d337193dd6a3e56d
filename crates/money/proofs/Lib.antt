pub mod Accepted
pub mod AmountLaws
pub mod DigitLaws
pub mod Exact
pub mod Examples
pub mod UnitLaws
