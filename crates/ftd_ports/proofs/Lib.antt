pub mod WritingFacts
