-- Laws that belong to no one function.
pub mod MessageLaws
pub mod SettingLaws
