pub mod Responses
pub mod JournalFacts
