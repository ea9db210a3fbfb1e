pub mod Table
pub mod Stands
pub mod Reach
pub mod Machine
pub mod Cycles
pub mod Search
pub mod Leaves
