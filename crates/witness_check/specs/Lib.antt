pub mod Levels
pub mod Product
