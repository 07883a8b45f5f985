mod Rows
pub mod Single
pub mod Unique
pub mod Stands
pub mod Choosing
pub mod Replies
pub mod Faithful
pub mod RunLaws
mod Costs
pub mod Lines
pub mod Stepping
pub mod Typing
pub mod Performing
pub mod Reaching
pub mod Leading
pub mod Pieces
pub mod Doing
pub mod Starting
pub mod Fims
pub mod Casting
pub mod LastScreens
pub mod OneVote
pub mod Prefixes
