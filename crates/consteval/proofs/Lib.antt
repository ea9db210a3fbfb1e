pub mod ArithLaws
pub mod BitLaws
pub mod EvalLaws
pub mod FillLaws
pub mod TableLaws
