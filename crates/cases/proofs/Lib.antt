pub mod Laws
pub mod Filed
