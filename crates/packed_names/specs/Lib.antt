pub mod Places
pub mod Occurrence
pub mod MessageParts
pub mod Front
pub mod Hash
pub mod Table
pub mod Recent
