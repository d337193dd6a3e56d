pub mod Accepted
pub mod AnswerLaws
pub mod EditionLaws
pub mod Exact
pub mod GroupText
pub mod InvoiceLaws
pub mod SameText
