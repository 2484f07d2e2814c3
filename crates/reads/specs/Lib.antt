pub mod Meshes
pub mod Readings
