pub mod Holding
pub mod Leaving
pub mod RowPut
pub mod Trying
pub mod Splittable
pub mod HeldRows
pub mod Fronts
pub mod Pointed
