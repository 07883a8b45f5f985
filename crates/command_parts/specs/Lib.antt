pub mod Documents
pub mod Errors
pub mod FaultLines
pub mod Idle
pub mod Steps
pub mod Taking
