pub mod Faults
pub mod Recovering
