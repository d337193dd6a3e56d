pub mod Sizes
pub mod WritingLaws
pub mod Size
pub mod Going
pub mod PartsLaws
pub mod Examples
