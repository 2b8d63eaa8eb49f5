pub mod Lines
pub mod Reader
pub mod Fold
pub mod Abstraction
pub mod Replay
