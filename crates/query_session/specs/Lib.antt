pub mod State
pub mod Session
pub mod Laws
