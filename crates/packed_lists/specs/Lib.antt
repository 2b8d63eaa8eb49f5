pub mod Octets
pub mod Cut
pub mod Keyed
pub mod KeysSeen
pub mod Stored
pub mod RowsSeen
pub mod Packed
pub mod Blocks
