pub mod Inserted
pub mod Ranges
pub mod Rising
pub mod Distinct
pub mod Depth
pub mod Entries
pub mod Rules
pub mod Reading
pub mod LineLaws
pub mod Titles
pub mod Events
pub mod Lengths
mod Rows
