pub mod Entries
pub mod Scan
pub mod Beginning
pub mod Sorting
pub mod Filling
pub mod ByKey
pub mod OneList
