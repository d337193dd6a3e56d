pub mod Spellings
pub mod Tests
pub mod Thousands
