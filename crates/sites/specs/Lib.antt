pub mod Stored
pub mod Own
pub mod Run
