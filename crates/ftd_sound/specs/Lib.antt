pub mod Own
pub mod Parts
pub mod Days
pub mod Entered
pub mod Private
