pub mod Automaton
pub mod Cube
pub mod Gap
pub mod Lasso
pub mod Machine
pub mod Play
pub mod Run
pub mod Tree
