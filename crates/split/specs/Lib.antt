pub mod NewRows
pub mod Testing
pub mod Stages
pub mod Admitting
pub mod Writing
pub mod Outcomes
