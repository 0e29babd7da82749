pub mod Antichain
pub mod Covering
