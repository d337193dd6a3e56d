pub mod AlphabetLaws
pub mod ChecksumLaws
pub mod CreateLaws
pub mod Examples
pub mod GroupLaws
pub mod NumberLaws
pub mod RegroupLaws
pub mod XorLaws
