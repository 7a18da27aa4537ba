pub mod KeepLaws
pub mod FillLaws
pub mod Outcomes
