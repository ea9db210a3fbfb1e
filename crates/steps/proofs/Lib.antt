pub mod HeadLaws
pub mod Ways
pub mod StepLaws
pub mod ModuleLaws
