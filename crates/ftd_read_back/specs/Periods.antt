-- Quarters and years as texts have them.
use Rattle.std.specs.Prelude.{ℕ, ◌==◌, ◌&&◌, ◌++◌, List, length, take, drop, slice_index, Option}
use Rattle.std.specs.Prelude.{Some, None, option_map, if◌then◌else◌}
use Rattle.std.specs.Option.{option_or}
use Rattle.std.specs.Str.{all_ascii_digits}
use Rattle.ftd_days.specs.Calendar.{quarter_number, quarter_year}
use Rattle.ftd_days.specs.Digits.{number_of}
use Rattle.ftd_machine.specs.declared.entries.ReturnPeriod.{ReturnPeriod}
use Rattle.ftd_machine.specs.declared.entries.ReturnPeriod.TheVariants.{Quarter, Year}
use Rattle.ftd_read_back.specs.Cells.{number_read}

-- the period of a return: its year, and where it is a quarter its number from 1
pub record Period : Type 0 where
  pub year : ℕ
  pub quarter : Option ℕ

abbrev pub whole_year : ℕ → Period
whole_year year = record { year = year; quarter = None }

abbrev pub period_of : ReturnPeriod → Period
period_of (Quarter quarter) =
    record { year = quarter_year quarter; quarter = Some (quarter_number quarter) }
period_of (Year year) = whole_year year

-- the quarter of a text YYYYQn
abbrev pub quarter_read : List ℕ → Option Period
quarter_read text =
    if (length text == 6) && ((slice_index text 4 == 81)
    && all_ascii_digits (take 4 text ++ drop 5 text))
    then Some (record {
      year = number_of (take 4 text);
      quarter = Some (number_of (drop 5 text));
    })
    else None

-- a year, or a quarter
abbrev pub period_read : List ℕ → Option Period
period_read text = option_or (option_map whole_year (number_read text)) (quarter_read text)
