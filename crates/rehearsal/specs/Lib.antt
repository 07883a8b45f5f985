pub mod Numbers
pub mod Members
pub mod Document
pub mod Tables
pub mod Roll
pub mod Typing
pub mod Script
pub mod Laws
