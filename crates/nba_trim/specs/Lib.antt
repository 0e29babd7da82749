pub mod Live
pub mod Numbers
pub mod Search
pub mod Trimmed
