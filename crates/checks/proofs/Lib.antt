pub mod Putting
pub mod Finding
