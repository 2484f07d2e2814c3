pub mod Faults
pub mod RowLaws
pub mod Scan
