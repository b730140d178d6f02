mod OneVerdict
mod OwedDays
mod NextDays
mod Walked
mod DueListed
mod FirstYears
mod FoundRows
mod DueTold
pub mod Dropped
pub mod RowsTold
mod Unreported
mod Passed
mod Shown
mod AgendaRows
mod ByDueDate
mod DueYears
mod OwnDue
mod EachLater
mod TablesDue
mod ByAccount
mod AgendaTold
