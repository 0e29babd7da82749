pub mod Acceptance
pub mod Tableau
pub mod Walks
