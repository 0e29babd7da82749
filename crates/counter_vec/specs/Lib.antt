pub mod Counters
pub mod Orders
