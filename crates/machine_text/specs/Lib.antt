pub mod Fields
pub mod Lassos
pub mod Lines
pub mod Machines
pub mod Reading
