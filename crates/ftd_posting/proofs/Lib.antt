pub mod Becoming
pub mod Patching
pub mod Differing
pub mod RowsPlaced
pub mod LiveRuns
pub mod Numbers
pub mod HolidaysRead
pub mod RightByAll
pub mod OwedSince
pub mod LinesAfter
pub mod Placed
pub mod Reposting
pub mod PostedRuns
pub mod Booking
pub mod CorrectedState
pub mod CorrectedFigures
mod AddedDay
mod ChangedDay
mod DayTurned
mod DueAgain
mod MovedOwed
mod MovedRows
mod ReadYears
