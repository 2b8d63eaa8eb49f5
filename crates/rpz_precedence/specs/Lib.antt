pub mod Rank
pub mod Best
pub mod Seen
