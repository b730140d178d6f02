pub mod Parts
pub mod Days
pub mod Numbers
