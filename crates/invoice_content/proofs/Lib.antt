pub mod CheckLaws
pub mod ContentLaws
pub mod EntryLaws
pub mod Examples
pub mod RouteLaws
pub mod RouteSizes
