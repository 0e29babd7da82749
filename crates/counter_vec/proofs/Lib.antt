pub mod Along
pub mod Vectors
pub mod Galois
