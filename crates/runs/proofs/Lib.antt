pub mod Run
pub mod Inside
pub mod Items
pub mod Text
pub mod Ends
