pub mod Placing
pub mod Exact
