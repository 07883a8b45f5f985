pub mod Full
pub mod Ballots
pub mod Steps
pub mod Valid
pub mod Written
pub mod Lengths
pub mod Somes
pub mod Lines
pub mod ReadParts
pub mod CountParts
pub mod WholeBody
pub mod Bits
pub mod Bytes
pub mod ReadVotes
pub mod ReadBags
pub mod ReadCounters
pub mod SmallNumbers
pub mod ReadHead
pub mod Decoding
pub mod Counted
pub mod AnyOrder
pub mod Fills
pub mod FillVotes
pub mod FillCounters
pub mod InPlace
pub mod Loaded
pub mod OfTables
pub mod Counting
pub mod Growing
mod Parts
mod AddChoices
mod Rows
