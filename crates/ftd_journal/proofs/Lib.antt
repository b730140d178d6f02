mod ByKey
mod PartsAdded
mod EntriesKnown
mod TotalsKnown
mod OwnKnown
mod YearByYear
mod YearsOfDays
mod DaysKnown
mod WordsOn
pub mod ByName
mod Equal
pub mod Whole
mod NextNumbers
