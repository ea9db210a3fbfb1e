pub mod Emits
pub mod Loops
pub mod Groups
pub mod Check
