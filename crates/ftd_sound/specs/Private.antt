-- Words that private contracts, invariants and proofs alone use. What the crate promises is said
-- without them.
pub mod Plain
pub mod Lines
pub mod Calendars
