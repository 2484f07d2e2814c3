pub mod Within
pub mod Turns
