pub mod FieldsLaws
pub mod CodesLaws
pub mod SavingLaws
pub mod LoadingLaws
pub mod LoadSave
pub mod CallsLaws
pub mod Images
pub mod Outcomes
