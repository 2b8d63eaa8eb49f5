pub mod Key
pub mod Recent
pub mod Keeps
pub mod Keyed
pub mod Shards
