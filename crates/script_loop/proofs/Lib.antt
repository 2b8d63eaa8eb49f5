pub mod Moving
pub mod Lines
pub mod Folds
pub mod Steps
pub mod Abstraction
