pub mod Progress
pub mod Feeding
pub mod Stream
pub mod Request
pub mod Marks
pub mod Offer
pub mod Laws
