pub mod Words
pub mod PanelWords
pub mod ShownLemmas
mod Rows
pub mod FieldFits
pub mod Screens
