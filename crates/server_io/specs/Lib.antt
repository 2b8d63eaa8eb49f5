pub mod Told
pub mod Wired
