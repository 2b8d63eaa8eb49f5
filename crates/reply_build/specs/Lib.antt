pub mod Verdict
pub mod Target
pub mod Reply
pub mod Seen
pub mod Parts
pub mod Servfail
pub mod Short
