-- Dates as texts have them, and those on which the events of a calendar are.
use Rattle.std.specs.Prelude.{ℕ, ◌==◌, ◌&&◌, ◌++◌, List, codes, length, take, drop, slice_index}
use Rattle.std.specs.Prelude.{Option, Some, None, if◌then◌else◌}
use Rattle.std.specs.List.{filter_map, starts_with}
use Rattle.std.specs.Str.{all_ascii_digits}
use Rattle.ftd_days.specs.Calendar.{year_of, month_in_year, day_of_month}
use Rattle.ftd_days.specs.Digits.{number_of}

-- a date: its year, its month from 1 and its day of the month from 1
pub record Date : Type 0 where
  pub year : ℕ
  pub month : ℕ
  pub day : ℕ

-- the date of a day
abbrev pub date_of : ℕ → Date
date_of day =
    record { year = year_of day; month = month_in_year day; day = day_of_month day }

-- the date that eight digits name: four are of its year, two of its month and two of its day
abbrev pub date_read : List ℕ → Option Date
date_read text =
    if (length text == 8) && all_ascii_digits text
    then Some (record {
      year = number_of (take 4 text);
      month = number_of (take 2 (drop 4 text));
      day = number_of (drop 6 text);
    })
    else None

-- the same of a text YYYY-MM-DD
abbrev pub day_read : List ℕ → Option Date
day_read text =
    if (slice_index text 4 == 45) && (slice_index text 7 == 45)
    then date_read (take 4 text ++ take 2 (drop 5 text) ++ drop 8 text)
    else None

-- how the line begins that says on which date an event is
abbrev pub start_mark : List ℕ
start_mark = codes "DTSTART;VALUE=DATE:"

-- the date of an event that a line says, if it says one
abbrev pub start_read : List ℕ → Option Date
start_read line =
    if starts_with (λ a b. a == b) line start_mark
    then date_read (drop (length start_mark) line)
    else None

-- the dates of the events that these lines say, in their order
abbrev pub start_dates : List (List ℕ) → List Date
start_dates lines = filter_map start_read lines
