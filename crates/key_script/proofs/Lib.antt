mod EventCounts
pub mod EventLaws
pub mod LineLaws
mod NameLaws
mod Presses
pub mod ScriptLaws
pub mod SpellingLaws
mod StartLaws
mod Rows
