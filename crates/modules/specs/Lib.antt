pub mod Groups
pub mod Ends
pub mod Power
pub mod Stage
pub mod Masks
