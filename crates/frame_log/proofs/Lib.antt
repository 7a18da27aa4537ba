pub mod TextLaws
pub mod LineLaws
pub mod EntryLaws
pub mod Outcomes
