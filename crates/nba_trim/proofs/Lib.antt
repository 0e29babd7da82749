pub mod Accepted
pub mod Finding
pub mod Numbering
pub mod Paths
pub mod Sources
pub mod Trimmed
pub mod Trues
