pub mod BigSize
