mod Calendars
mod NewDesks
