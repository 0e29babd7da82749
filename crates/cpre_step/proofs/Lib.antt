pub mod ByValuations
pub mod Left
