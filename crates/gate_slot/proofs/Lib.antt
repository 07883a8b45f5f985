pub mod Changed
pub mod Fronts
pub mod Images
pub mod Paging
pub mod Patched
pub mod Rows
pub mod Written
