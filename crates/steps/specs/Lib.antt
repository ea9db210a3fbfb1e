pub mod Steps
pub mod Modules
