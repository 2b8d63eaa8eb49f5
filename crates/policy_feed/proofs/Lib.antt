pub mod FitBlocks
pub mod FitStreams
pub mod FitZones
pub mod Kept
pub mod Fed
pub mod Noticed
pub mod Begun
pub mod Woken
