-- Words that private contracts, invariants and proofs alone use. What the crate promises is said
-- without them.
pub mod Due
pub mod Years
pub mod Periods
pub mod Stops
pub mod Lookback
pub mod Obligations
pub mod Walk
