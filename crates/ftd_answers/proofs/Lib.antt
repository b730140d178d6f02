pub mod LineFacts
pub mod MonthFacts
pub mod RowFacts
pub mod AgendaFacts
pub mod RowFormatFacts
pub mod CalendarFacts
pub mod Headers
mod LineParts
mod ExplanationParts
