pub mod Calls
pub mod Ending
mod Faults
pub mod Idle
pub mod InUse
pub mod Listing
pub mod Once
pub mod Steps
