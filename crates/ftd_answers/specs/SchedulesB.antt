-- The text of Schedule B: the liability of a quarter by day, by month and together.
use Rattle.std.specs.Prelude.{ℕ, ◌+◌, ◌*◌, ◌/◌, ◌%◌, ◌==◌, List, [], ◌∷◌, ◌++◌, codes, filter}
use Rattle.std.specs.List.{sum_by, flat_map}
use Rattle.ftd_days.specs.declared.limits.TheConstants.{FIRST_CALENDAR_YEAR}
use Rattle.ftd_days.specs.Calendar.{month_of}
use Rattle.ftd_days.specs.Digits.{two_digits, four_digits}
use Rattle.ftd_days.specs.Text.{day_text, hyphen, quarter_text}
use Rattle.ftd_rules.specs.Liability.{cents_of}
use Rattle.ftd_rules.specs.declared.DaySum.{DaySum}
use Rattle.ftd_answers.specs.Columns.{space, line_end, left_in, amount_in}

-- the first line: `SCHEDULE B`, account and quarter
abbrev pub b_head : List ℕ → ℕ → List ℕ
b_head account quarter =
    codes "SCHEDULE B " ++ account ++ (space ∷ quarter_text quarter) ++ (line_end ∷ [])

-- each other line: a label at the left of 12 bytes, and an amount at the right of 17
unfoldable pub b_line : List ℕ → ℕ → List ℕ
b_line label amount = left_in 12 label ++ (amount_in amount ++ (line_end ∷ []))

-- the line of a day
unfoldable pub day_line : DaySum → List ℕ
day_line sum = b_line (day_text sum.day) sum.cents.0

-- a month as YYYY-MM; it goes by its number of months after January 1900
abbrev pub month_text : ℕ → List ℕ
month_text month =
    four_digits (FIRST_CALENDAR_YEAR + month / 12) ++ (hyphen ∷ two_digits (month % 12 + 1))

-- the sums of the days of a month
abbrev pub of_month : ℕ → List DaySum → List DaySum
of_month month sums = filter (λ sum. month_of sum.day == month) sums

-- the lines of a month: one for each of its days, and one for the month
unfoldable pub month_lines : List DaySum → ℕ → List ℕ
month_lines sums month =
    flat_map day_line (of_month month sums)
    ++ b_line (month_text month) (sum_by cents_of (of_month month sums))

-- the months of a quarter
abbrev pub months_of : ℕ → List ℕ
months_of quarter = (3 * quarter) ∷ (3 * quarter + 1) ∷ (3 * quarter + 2) ∷ []

-- Schedule B of an account's quarter: the first line, the lines of each month, and a line for the
-- quarter
unfoldable pub b_text : List ℕ → ℕ → List DaySum → List ℕ
b_text account quarter sums =
    b_head account quarter
    ++ (flat_map (month_lines sums) (months_of quarter)
    ++ b_line (quarter_text quarter) (sum_by cents_of sums))
