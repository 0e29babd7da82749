pub mod Refinement
pub mod Outcome
pub mod Valuations
