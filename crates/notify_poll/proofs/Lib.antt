pub mod Apart
pub mod LastEvent
pub mod Noted
