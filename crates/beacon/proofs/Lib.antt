pub mod TextLaws
pub mod WritingLaws
pub mod Keyable
pub mod Outcomes
