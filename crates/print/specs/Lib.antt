pub mod Lines
pub mod LineLaws
pub mod Cases
