pub mod Standing
pub mod Fans
