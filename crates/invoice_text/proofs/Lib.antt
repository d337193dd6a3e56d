pub mod Examples
pub mod FirstWhere
pub mod GroupTest
pub mod LowerCase
pub mod TextLaws
