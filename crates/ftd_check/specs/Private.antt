-- Words that private contracts, invariants and proofs alone use. What the crate promises is said
-- without them.
pub mod Compared
pub mod DayRows
pub mod Groups
pub mod Names
pub mod Parts
pub mod ReadDayRows
pub mod Values
