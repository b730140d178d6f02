pub mod Notes
mod DueFacts
mod Mended
mod FaultLines
mod Numbered
mod OpenYears
mod YearEnds
mod Settled
mod RecordFacts
mod Puts
mod Journaled
