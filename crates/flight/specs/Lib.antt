pub mod Fields
pub mod Codes
pub mod Saving
pub mod Loading
pub mod Calls
