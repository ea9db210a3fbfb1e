pub mod Tables
pub mod Places
pub mod DriveLaws
pub mod BlockLaws
pub mod LineLaws
pub mod AddedLaws
