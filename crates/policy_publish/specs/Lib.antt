pub mod Lists
pub mod Publishing
pub mod Rules
pub mod Shows
pub mod Stores
