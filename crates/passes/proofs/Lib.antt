pub mod Standing
pub mod Following
pub mod Passes
pub mod Listing
