pub mod Held
pub mod Lines
pub mod Added
