pub mod Digits
pub mod Lines
pub mod Moment
pub mod Laws
pub mod Words
