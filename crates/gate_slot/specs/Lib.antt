pub mod Device
pub mod Front
pub mod Page
pub mod Slot
pub mod Survival
pub mod Token
