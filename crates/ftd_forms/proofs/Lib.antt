pub mod ShownFacts
pub mod SentFacts
