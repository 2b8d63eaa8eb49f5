pub mod Stages
pub mod WholeAnswer
pub mod Settled
pub mod LiveEntries
pub mod Served
pub mod Worked
pub mod Outside
