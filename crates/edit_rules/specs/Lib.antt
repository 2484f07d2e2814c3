pub mod Edits
pub mod Swap
pub mod Split
pub mod Contract
pub mod Shape
pub mod Cases
