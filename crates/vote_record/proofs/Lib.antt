pub mod Bags
pub mod Counting
pub mod Filling
pub mod Empty
mod Sets
mod StoredCounters
mod NewCounters
mod Stored
mod TextLaws
mod Votes
mod Rows
