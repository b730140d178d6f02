-- The texts of what is kept.
use Rattle.std.specs.Prelude.{ℕ, ◌==◌, Bool, true, false, List, [], ◌∷◌, ◌++◌, codes, Option, Some}
use Rattle.std.specs.Prelude.{None, if◌then◌else◌}
use Rattle.std.specs.Fmt.{decimal}
use Rattle.std.specs.List.{flat_map, join_with_byte, concat}
use Rattle.ftd_days.specs.Text.{cents_text, day_text, quarter_text}
use Rattle.ftd_rules.specs.declared.Kind.{Kind}
use Rattle.ftd_rules.specs.declared.Kind.TheVariants.{Monthly, Semiweekly}
use Rattle.ftd_rules.specs.declared.YearLine.{YearLine}
use Rattle.ftd_machine.specs.declared.entries.Account.{Account}
use Rattle.ftd_machine.specs.declared.entries.ReturnPeriod.{ReturnPeriod}
use Rattle.ftd_machine.specs.declared.entries.ReturnPeriod.TheVariants.{Quarter, Year}
use Rattle.ftd_machine.specs.declared.kept.KeptAccount.{KeptAccount}
use Rattle.ftd_machine.specs.declared.kept.KeptHoliday.{KeptHoliday}
use Rattle.ftd_machine.specs.declared.kept.KeptPayment.{KeptPayment}
use Rattle.ftd_machine.specs.declared.kept.KeptRun.{KeptRun}
use Rattle.ftd_machine.specs.declared.kept.KeptTotal.{KeptTotal}
use Rattle.ftd_machine.specs.declared.kept.KeptYear.{KeptYear}
use Rattle.ftd_machine.specs.declared.kept.KeptRows.{KeptRows}
use Rattle.ftd_machine.specs.declared.kept.KeptRows.TheVariants as rows
use Rattle.ftd_answers.specs.Agendas.{form_number}
use Rattle.ftd_answers.specs.Columns.{space, line_end, left_in, amount_in}

-- ---- the first line: what is listed, of what

abbrev pub of_account : List ℕ → List ℕ → List ℕ
of_account what account = concat (what ∷ account ∷ (line_end ∷ []) ∷ [])

abbrev pub of_quarter : List ℕ → List ℕ → ℕ → List ℕ
of_quarter what account quarter =
    concat (what ∷ account ∷ (space ∷ []) ∷ quarter_text quarter ∷ (line_end ∷ []) ∷ [])

abbrev pub head_text : KeptRows → List ℕ
head_text (rows.Accounts listed) = codes "ACCOUNTS\n"
head_text (rows.Years account listed) = of_account (codes "YEARS ") account
head_text (rows.Reported account listed) = of_account (codes "REPORTED ") account
head_text (rows.Holidays year listed) =
    concat (codes "HOLIDAYS " ∷ decimal year ∷ (line_end ∷ []) ∷ [])
head_text (rows.Runs account quarter listed) = of_quarter (codes "RUNS ") account quarter
head_text (rows.Payments account quarter listed) =
    of_quarter (codes "PAYMENTS ") account quarter

-- ---- a line of each: its columns, with one space between, and then what marks it

-- an account's name, form and first day, and whether it is carried
abbrev pub carried_end : Bool → List ℕ
carried_end true = codes " carried\n"
carried_end false = codes "\n"

unfoldable pub name_text : List ℕ → List ℕ
name_text name = left_in 20 name ++ (space ∷ [])

unfoldable pub enrolled_text : Account → List ℕ
enrolled_text account =
    join_with_byte space (form_number account.form ∷ day_text account.start ∷ [])
    ++ carried_end account.carried

unfoldable pub account_line : KeptAccount → List ℕ
account_line x = name_text x.name ++ enrolled_text x.account

-- the end of a line of an amount that is in force: the amount that was first reported, ` first
-- 48000.00`, where it is another
abbrev pub first_end : ℕ → ℕ → List ℕ
first_end cents first =
    if cents == first then codes "\n"
    else concat (codes " first " ∷ cents_text first ∷ codes "\n" ∷ [])

-- an open year, its lookback total, the schedule that it opens with, whether the account is carried
-- into it, the day on which it turned, and the lookback total by what was first reported
abbrev pub kind_name : Kind → List ℕ
kind_name Monthly = codes "monthly"
kind_name Semiweekly = codes "semiweekly"

abbrev pub carried_text : Bool → List ℕ
carried_text true = codes " carried"
carried_text false = []

abbrev pub turn_text : Option ℕ → List ℕ
turn_text None = []
turn_text (Some turn) = concat (codes " turned " ∷ day_text turn ∷ [])

unfoldable pub year_text : YearLine → List ℕ
year_text x =
    join_with_byte space (decimal x.year ∷ amount_in x.lookback.0 ∷ kind_name x.opening ∷ [])
    ++ carried_text x.carried

unfoldable pub year_line : KeptYear → List ℕ
year_line x =
    year_text x.line ++ (turn_text x.line.turn ++ first_end x.line.lookback.0 x.first_lookback.0)

-- a reported total: its quarter or year, the amount, and the amount that was first reported
unfoldable pub total_text : List ℕ → ℕ → ℕ → List ℕ
total_text period cents first =
    join_with_byte space (period ∷ amount_in cents ∷ []) ++ first_end cents first

abbrev pub period_text : ReturnPeriod → List ℕ
period_text (Quarter quarter) = quarter_text quarter
period_text (Year year) = decimal year

abbrev pub total_line : KeptTotal → List ℕ
total_line x = total_text (period_text x.period) x.cents.0 x.first.0

-- a day that was given or added as a holiday: whether it was added to its year, and whether it was
-- taken back
abbrev pub added_text : Bool → List ℕ
added_text true = codes " added"
added_text false = []

abbrev pub holiday_end : Bool → List ℕ
holiday_end true = codes "\n"
holiday_end false = codes " taken-back\n"

abbrev pub holiday_line : KeptHoliday → List ℕ
holiday_line x = concat (day_text x.day ∷ added_text x.added ∷ holiday_end x.is_holiday ∷ [])

-- whether it was voided
abbrev pub void_end : Bool → List ℕ
void_end true = codes " void\n"
void_end false = codes "\n"

-- a pay run: its payday, the federal income tax, both shares of social security and of Medicare
-- tax, and its number
unfoldable pub run_line : KeptRun → List ℕ
run_line x =
    join_with_byte space (day_text x.run.payday ∷ amount_in x.run.fit.0 ∷ amount_in x.run.ss.0
    ∷ amount_in x.run.medicare.0 ∷ decimal x.number ∷ [])
    ++ void_end x.voided

-- a payment: the day that it is for, its amount, the day on which it was paid, the first day of the
-- obligation that it counts for, and its number
abbrev pub held_text : Option ℕ → List ℕ
held_text None = codes "none      "
held_text (Some first) = day_text first

unfoldable pub payment_line : KeptPayment → List ℕ
payment_line x =
    join_with_byte space (day_text x.payment.for_day ∷ amount_in x.payment.cents.0
    ∷ day_text x.payment.paid ∷ held_text x.obligation ∷ decimal x.number ∷ [])
    ++ void_end x.voided

-- ---- the lists

unfoldable pub rows_text : KeptRows → List ℕ
rows_text (rows.Accounts listed) = flat_map account_line listed
rows_text (rows.Years account listed) = flat_map year_line listed
rows_text (rows.Reported account listed) = flat_map total_line listed
rows_text (rows.Holidays year listed) = flat_map holiday_line listed
rows_text (rows.Runs account quarter listed) = flat_map run_line listed
rows_text (rows.Payments account quarter listed) = flat_map payment_line listed

-- the first line, and a line for each row
unfoldable pub kept_text : KeptRows → List ℕ
kept_text told = head_text told ++ rows_text told
