pub mod ChoicePlaces
pub mod Choices
pub mod LineChoices
pub mod Lookups
pub mod Pairs
