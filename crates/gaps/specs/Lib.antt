pub mod Closing
pub mod Renaming
pub mod Asking
