pub mod SharedBlocks
pub mod Cutting
pub mod Runs
pub mod Sorting
pub mod Packing
pub mod Rising
pub mod Joined
