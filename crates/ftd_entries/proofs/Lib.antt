pub mod Permuted
pub mod Found
pub mod Kept
pub mod Opened
pub mod Reading
pub mod Serving
pub mod Entered
pub mod Growing
pub mod Settling
pub mod Enrolling
pub mod CalendarRows
pub mod Corrections
pub mod Corrected
pub mod Giving
pub mod Lines
pub mod Opening
pub mod NextLine
pub mod Deciding
pub mod KnownYears
pub mod Figures
pub mod Totals
pub mod Reporting
pub mod Voiding
pub mod Paying
pub mod DayCells
pub mod YearHolidays
pub mod OwedRows
pub mod OwedAgain
pub mod Ends
pub mod ListedRows
pub mod QuarterDays
pub mod DayChanges
pub mod PutRight
pub mod InOrder
mod Rising
mod KeptSums
pub mod LiableDays
pub mod Searching
mod LiabilityRead
mod PaymentsRead
mod Preceding
pub mod ReturnDates
pub mod YearsRead
mod KeptEnrolled
mod AccountOrder
