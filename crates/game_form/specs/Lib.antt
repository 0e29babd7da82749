pub mod Covering
pub mod Game
pub mod Held
pub mod Letters
pub mod Predecessor
pub mod Tree
pub mod Vector
