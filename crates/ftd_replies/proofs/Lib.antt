mod CutLines
mod JournalValues
mod FewAdded
mod LineDays
mod LineFacts
mod LineRequests
mod LineTasks
mod LineValues
mod LineVerbs
pub mod ReadBack
mod RequestLines
mod Rests
pub mod Walked
