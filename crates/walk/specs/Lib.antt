pub mod Walk
pub mod Fold
pub mod Alike
