pub mod Edges
pub mod Clearing
pub mod Stages
pub mod Admitting
pub mod Replacing
pub mod Keeping
pub mod Writing
pub mod Outcomes
