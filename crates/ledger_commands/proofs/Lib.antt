mod Opened
mod Received
pub mod Receiving
pub mod Statuses
mod Sums
