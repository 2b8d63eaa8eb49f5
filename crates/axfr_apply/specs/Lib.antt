pub mod Item
pub mod Block
pub mod Reading
pub mod Checks
pub mod Becomes
pub mod Stepping
pub mod Gathered
