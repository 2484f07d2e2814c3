pub mod Marks
pub mod Corners
pub mod Common
