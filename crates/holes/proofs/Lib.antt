pub mod Reading
pub mod Marking
pub mod Numbering
pub mod Leaving
pub mod Whole
