pub mod Scanning
pub mod Words
pub mod Parting
pub mod Decimals
pub mod Kinds
pub mod Grammar
pub mod Reading
