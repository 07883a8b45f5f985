pub mod Cutting
pub mod LineLaws
pub mod Orders
pub mod Exact
pub mod Following
pub mod Lengths
pub mod Spellings
pub mod Differences
pub mod Walking
pub mod Records
pub mod Agreeing
pub mod Searching
mod Rows
