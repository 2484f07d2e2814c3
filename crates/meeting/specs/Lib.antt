pub mod Folds
pub mod Clashes
pub mod Numbers
pub mod Places
