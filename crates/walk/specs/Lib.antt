pub mod Layout
pub mod Sides
pub mod Traces
pub mod Walks
pub mod Steps
