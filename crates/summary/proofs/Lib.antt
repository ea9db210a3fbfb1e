pub mod Table
pub mod Pairs
pub mod Ports
pub mod Making
pub mod Leaving
