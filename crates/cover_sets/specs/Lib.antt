pub mod Bits
pub mod Cover
pub mod Covers
pub mod Numbers
pub mod Reduced
pub mod Union
