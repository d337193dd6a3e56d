pub mod Examples
pub mod PartLaws
pub mod SectionLaws
pub mod TableLaws
