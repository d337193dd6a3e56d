pub mod BackLaws
pub mod Composing
pub mod Named
pub mod PayloadLaws
pub mod Rewritten
pub mod Spelled
