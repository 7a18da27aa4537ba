pub mod Everywhere
pub mod SignsLaws
pub mod TextsLaws
pub mod UnitsLaws
pub mod KeyingLaws
pub mod Outcomes
