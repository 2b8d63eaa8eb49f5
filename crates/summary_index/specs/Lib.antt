pub mod Zones
pub mod Summary
pub mod Entries
pub mod Merged
pub mod Knowing
