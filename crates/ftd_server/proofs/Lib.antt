pub mod HandledFacts
pub mod TableFacts
mod AccountFacts
