pub mod Examples
pub mod MakingLaws
pub mod RoundTrip
pub mod ShortestLaws
