pub mod Field
pub mod Panel
pub mod Screen
