pub mod Turnout
pub mod Laws
