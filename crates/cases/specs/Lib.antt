pub mod Answer
pub mod Stored
