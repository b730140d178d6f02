pub mod Repairing
pub mod Keeping
pub mod Counting
mod Handling
pub mod Running
mod Booking
mod Together
pub mod Tried
mod Handled
pub mod Showing
mod Opened
pub mod Refiled
