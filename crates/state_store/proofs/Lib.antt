pub mod Sections
pub mod Named
pub mod Stored
mod Decodes
pub mod Changing
pub mod Recovering
pub mod Ready
pub mod Formatting
pub mod Going
pub mod Loaded
pub mod Versions
pub mod PageBound
mod Rows
