-- Words that private contracts and proofs alone use. What the crate promises is said without them.
pub mod Turned
pub mod Ready
pub mod Answered
