mod Asked
pub mod Endings
pub mod Offers
pub mod Once
mod Sessions
pub mod Totals
pub mod Offices
