pub mod Cut
pub mod Hash
pub mod Chain
pub mod Lines
pub mod Fault
pub mod Laws
pub mod Reading
