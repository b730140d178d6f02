pub mod Found
pub mod Listed
pub mod DaySums
pub mod OpenYears
pub mod Going
pub mod Beginning
pub mod Replaced
pub mod Telling
pub mod Same
mod SameKept
mod SameCorrections
mod SameAdded
mod TellingAdded
pub mod Sums
pub mod YearRows
pub mod Putting
pub mod Walks
pub mod Turning
pub mod Items
pub mod Sifted
pub mod AddedYears
mod ReadTexts
pub mod Readable
