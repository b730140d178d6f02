-- The desk as one that was told right at first: what is in force stands in the place of what was
-- first given, and nothing is put right.
use Rattle.std.specs.Prelude.{Bool, true, false, List, [], map, filter}
use Rattle.ftd_days.specs.Holidays.{YearDays}
use Rattle.ftd_days.specs.declared.cents.Cents.{Cents}
use Rattle.ftd_machine.specs.State.{State, Enrolled, Entry, Move, DayChange, moves_of, in_force}
use Rattle.ftd_machine.specs.State.{is_of, all_at, latest, is_in_force}
use Rattle.ftd_machine.specs.declared.requests.Question.{Question}
use Rattle.ftd_machine.specs.declared.requests.Question.TheVariants.{Kept}
use Rattle.ftd_machine.specs.declared.requests.Request.{Request}
use Rattle.ftd_machine.specs.declared.requests.Request.TheVariants.{Correct}

-- an account, enrolled as it is in force
abbrev pub enrolled_right : List Move → Enrolled → Enrolled
enrolled_right moved e =
    record { name = e.name; account = in_force (moves_of e.name moved) e.account }

-- a total of a quarter or a year, reported as it is in force
abbrev pub reported_right : List (Entry Cents) → Entry Cents → Entry Cents
reported_right corrected e =
    let later = all_at e.key (filter (is_of e.name) corrected) in
    record { name = e.name; key = e.key; content = latest e.content later }

-- the calendar of a year, given without the days that were taken back
abbrev pub given_right : List DayChange → YearDays → YearDays
given_right changes g = record { year = g.year; days = filter (is_in_force changes) g.days }

abbrev pub told_right : State → State
told_right s = record s {
  accounts = map (enrolled_right s.moved) s.accounts;
  calendars = map (given_right s.changed_days) s.calendars;
  added_days = filter (is_in_force s.changed_days) s.added_days;
  reported = map (reported_right s.corrected) s.reported;
  reported_years = map (reported_right s.corrected_years) s.reported_years;
  corrected = [];
  corrected_years = [];
  changed_days = [];
  moved = [];
}

-- the question is what is kept
abbrev pub asks_what_is_kept : Question → Bool
asks_what_is_kept (Kept kept) = true
asks_what_is_kept other = false

-- the request puts something right
abbrev pub corrects : Request → Bool
corrects (Correct number correction) = true
corrects other = false
