pub mod Apart
pub mod Belonging
pub mod Entries
pub mod Finding
pub mod Keys
pub mod Touched
