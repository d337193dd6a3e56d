pub mod Counting
pub mod Listing
pub mod Packing
pub mod Profiling
pub mod Ruling
pub mod Surveying
pub mod Told
