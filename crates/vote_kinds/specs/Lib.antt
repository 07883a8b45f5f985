pub mod Choice
pub mod Ballot
