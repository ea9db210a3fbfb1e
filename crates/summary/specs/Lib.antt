pub mod Keeps
pub mod Pairs
