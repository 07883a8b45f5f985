pub mod Contest
pub mod Giving
pub mod Laws
pub mod Lines
pub mod Simple
pub mod Totals
