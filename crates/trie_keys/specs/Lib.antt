pub mod Keys
pub mod Scan
pub mod Sorting
pub mod Filling
