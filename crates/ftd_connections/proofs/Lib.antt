pub mod EndFacts
pub mod ServeFacts
pub mod ListeningFacts
pub mod ServedFacts
