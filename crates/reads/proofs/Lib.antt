pub mod Readings
pub mod Tested
pub mod Entries
