pub mod Classes
pub mod Folding
pub mod Kinds
pub mod Simulation
pub mod Ways
