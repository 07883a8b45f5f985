pub mod Digits
pub mod LineLists
pub mod Totals
pub mod Lists
pub mod Listing
pub mod Spelled
