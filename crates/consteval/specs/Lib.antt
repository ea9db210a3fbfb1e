pub mod Worth
pub mod Fill
