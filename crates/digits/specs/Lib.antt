pub mod Digits
pub mod Counting
