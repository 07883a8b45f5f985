pub mod Marks
mod Rows
