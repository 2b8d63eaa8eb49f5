pub mod Local
pub mod Action
pub mod Laws
pub mod Seen
pub mod Lent
pub mod Part
