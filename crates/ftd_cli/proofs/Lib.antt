pub mod AppFacts
pub mod Simple
pub mod Named
pub mod Single
pub mod TaskFacts
pub mod Joined
