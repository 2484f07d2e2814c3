pub mod Firsts
pub mod Maps
pub mod Pairs
