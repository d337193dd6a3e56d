pub mod CutShort
pub mod Laws
pub mod RoundTrip
