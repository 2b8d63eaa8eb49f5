pub mod Fronts
pub mod Adding
pub mod Taking
pub mod Opening
pub mod Publications
pub mod Queued
