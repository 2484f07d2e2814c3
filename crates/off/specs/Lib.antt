pub mod Passing
pub mod Judging
pub mod Heads
pub mod Faces
pub mod Lines
pub mod Writing
pub mod Answers
pub mod Same
