pub mod Off
pub mod Cases
