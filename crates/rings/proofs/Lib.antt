pub mod Rings
pub mod Answering
