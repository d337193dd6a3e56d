pub mod FeatureLaws
pub mod GroupLaws
pub mod LayoutLaws
pub mod MessageLaws
pub mod AddressLaws
pub mod Described
pub mod PartLaws
pub mod PongLaws
