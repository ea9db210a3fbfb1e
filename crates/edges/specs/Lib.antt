pub mod Reads
pub mod Shows
pub mod Lines
pub mod Total
pub mod Leaves
