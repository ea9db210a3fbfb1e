pub mod CyclesLaws
pub mod EvalLaws
pub mod VerdictLaws
