pub mod Timers
pub mod Notifying
pub mod History
