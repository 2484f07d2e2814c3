pub mod Siblings
pub mod Crossings
pub mod Rings
