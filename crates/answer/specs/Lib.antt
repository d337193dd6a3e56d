pub mod Answer
pub mod Missing
