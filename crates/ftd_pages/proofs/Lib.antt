pub mod EscapeFacts
pub mod ValueFacts
pub mod Words
