pub mod Cycle
pub mod Plain
pub mod Face
