pub mod Orders
pub mod Ties
pub mod Hits
pub mod Places
pub mod OneServer
