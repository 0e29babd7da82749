pub mod Bytes
pub mod StepBounds
pub mod Steps
pub mod Tokens
