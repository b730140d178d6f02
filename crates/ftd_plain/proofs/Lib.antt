pub mod Calendars
pub mod Members
pub mod Sums
pub mod TakingFacts
