pub mod CutShort
pub mod CutsOnly
pub mod Wholes
