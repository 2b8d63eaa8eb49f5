pub mod Override
pub mod Overrides
pub mod ZoneSet
