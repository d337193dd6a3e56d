pub mod BookMender
