pub mod Cycles
pub mod Eval
pub mod Verdict
