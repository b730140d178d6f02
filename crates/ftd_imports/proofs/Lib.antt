pub mod Again
pub mod Counting
pub mod Texts
pub mod Together
pub mod Outcomes
pub mod Tried
mod StillAdded
mod PlainFields
mod RecordText
mod PrintedDays
mod ReadBack
mod Reread
mod Imported
