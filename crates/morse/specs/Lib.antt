pub mod Answers
pub mod Signs
pub mod Texts
pub mod Units
pub mod SignTable
pub mod Keying
