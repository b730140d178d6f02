use Rattle.ftd_journal.proofs.days.add_part_of_year.Goals as goal

pub returns-in-Calendars : goal.returns-in-Calendars
returns-in-Calendars g c = record { call = rw c.in-Calendars.is c.add_calendar.ensures.call }

pub returns-in-Holidays : goal.returns-in-Holidays
returns-in-Holidays g c = record { call = rw c.in-Holidays.is c.add_holidays.ensures.call }

pub returns-in-Changes : goal.returns-in-Changes
returns-in-Changes g c = record { call = rw c.in-Changes.is c.add_changes.ensures.call }
