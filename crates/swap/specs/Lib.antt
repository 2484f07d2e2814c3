pub mod Swaps
pub mod Calling
