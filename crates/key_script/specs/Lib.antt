pub mod Event
pub mod Laws
pub mod Names
pub mod Script
pub mod Spelling
pub mod Starts
