-- What the command `plain` answers: the deposits of one employer in one year, from its pay runs.
use Rattle.std.specs.Prelude.{◌≡◌, ◌≢◌, ℕ, ◌+◌, ◌==◌, ◌&&◌, ◌<◌, ◌≤◌, ◌⊎◌, ◌↔◌, Bool, false, List}
use Rattle.std.specs.Prelude.{[], ◌∷◌, ◌++◌, length, map, Option, Some, None, IsTrue, All, AllPairs}
use Rattle.std.specs.Prelude.{Contains, count_by, if◌then◌else◌, ⊤}
use Rattle.std.specs.List.{filter_map, flat_map}
use Rattle.std.specs.List.Sorted.{IsStrictlyIncreasing}
use Rattle.std.specs.Str.{bytes_eq}
use Rattle.ftd_csv.specs.declared.reading.TheConstants.{MOST_BYTES}
use Rattle.ftd_days.specs.declared.limits.TheConstants.{MOST_HOLIDAYS}
use Rattle.ftd_days.specs.Calendar.{year_of}
use Rattle.ftd_rules.specs.declared.DaySum.{DaySum}
use Rattle.ftd_rules.specs.declared.run.PayRun.{PayRun}
use Rattle.ftd_rules.specs.declared.Obligation.{Obligation}
use Rattle.ftd_rules.specs.declared.Form.TheVariants.{F941}
use Rattle.ftd_rules.specs.declared.YearLine.{YearLine}
use Rattle.ftd_rules.specs.Liability.{run_liability}
use Rattle.ftd_rules.specs.Years.{AreLines}
use Rattle.ftd_rules.specs.Obligations.{AreObligations}
use Rattle.ftd_rules.specs.Text.{obligation_text}
use Rattle.ftd_csv.specs.declared.sheets.Sheet.TheVariants.{Runs}
use Rattle.ftd_csv.specs.Records.{HasHeader, records_of}
use Rattle.ftd_csv.specs.declared.entries.Content.{Content}
use Rattle.ftd_csv.specs.declared.entries.Content.TheVariants as content
use Rattle.ftd_machine.specs.declared.limits.TheConstants.{MOST_ENTRIES}
use Rattle.ftd_machine.specs.declared.requests.Request.TheVariants as request
use Rattle.ftd_plain.specs.declared.fault.PlainFault.{PlainFault}
use Rattle.ftd_plain.specs.declared.fault.PlainFault.TheVariants as fault

-- the holidays are a calendar of the year and the next: days of these years that rise, at most 60
-- of each
pub record IsCalendar (year : ℕ) (holidays : List ℕ) : Type 0 where
  pub rising : IsStrictlyIncreasing holidays
  pub in_years : All (λ day. (year_of day ≡ year) ⊎ (year_of day ≡ year + 1)) holidays
  pub few : count_by (λ day. year_of day == year) holidays ≤ MOST_HOLIDAYS
  pub few_next : count_by (λ day. year_of day == year + 1) holidays ≤ MOST_HOLIDAYS

-- a pay run of an employer: the name of its account, its number, its payday and its amounts
pub record Run : Type 0 where
  pub employer : List ℕ
  pub number : ℕ
  pub run : PayRun

-- what a record says of a pay run: the run, or its field that is bad. One that enters anything else
-- is no record of pay runs.
pub data SaidRun : Type 0 where
  enters : Run → SaidRun
  malformed : ℕ → SaidRun

abbrev pub run_said : Content → SaidRun
run_said (content.Entry (request.Post employer number run)) =
    enters (record { employer = employer; number = number; run = run })
run_said (content.Entry other) = malformed 0
run_said (content.Malformed field) = malformed field

-- what the records of a text say of pay runs
abbrev pub run_records : List ℕ → List SaidRun
run_records text = map run_said (records_of Runs text)

-- the runs that the records say of the account with a payday in the year
abbrev pub is_taken : List ℕ → ℕ → Run → Bool
is_taken account year run = bytes_eq run.employer account && (year_of run.run.payday == year)

abbrev pub taken_run : List ℕ → ℕ → SaidRun → Option Run
taken_run account year (enters run) = if is_taken account year run then Some run else None
taken_run account year (malformed place) = None

abbrev pub taken : List ℕ → ℕ → List SaidRun → List Run
taken account year records = filter_map (taken_run account year) records

-- these runs count: no two have one number, and they are exactly the taken ones. So a run that was
-- given twice with equal content counts once.
pub record AreCounted (taken counted : List Run) : Type 0 where
  pub each_once : AllPairs (λ a b. a.number ≢ b.number) counted
  pub same : (run : Run) → Contains counted run ↔ Contains taken run

-- the run can't join those that were taken before it: one of them has its number and other content,
-- or it brings one number more than the most
abbrev pub RunFault : List Run → Run → PlainFault → Type 0
RunFault before run (fault.RunDiffers number) =
    (number ≡ run.number)
    × ((other : Run) × Contains before other × (other.number ≡ run.number) × (other ≢ run))
RunFault before run fault.TooManyRuns =
    ((other : Run) → Contains before other → other.number ≢ run.number)
    × ((counted : List Run) × AreCounted before counted × (length counted ≡ MOST_ENTRIES))
RunFault before run other = ⊥

-- a record is at fault, given the records before it. Records are numbered from 1, and the header is
-- record 1.
abbrev pub AtFault : List ℕ → ℕ → List SaidRun → SaidRun → PlainFault → Type 0
AtFault account year before (malformed place) f = f ≡ fault.Malformed (2 + length before) place
AtFault account year before (enters run) f =
    IsTrue (is_taken account year run) × RunFault (taken account year before) run f

-- no record is at fault, each given the records before it
abbrev pub NoneAtFault : List ℕ → ℕ → List SaidRun → Type 0
NoneAtFault account year records =
    (before : List SaidRun) (record_at : SaidRun) (after : List SaidRun) (f : PlainFault)
    → records ≡ before ++ record_at ∷ after → AtFault account year before record_at f → ⊥

-- the first record that is at fault, and its fault
pub record FirstFault (account : List ℕ) (year : ℕ) (records : List SaidRun)
    (f : PlainFault) : Type 0 where
  pub before : List SaidRun
  pub record_at : SaidRun
  pub after : List SaidRun
  pub parts : records ≡ before ++ record_at ∷ after
  pub none_before : NoneAtFault account year before
  pub at_fault : AtFault account year before record_at f

-- what a run adds to the liability of its payday: the income tax withheld and both shares of social
-- security and of Medicare tax
abbrev pub day_sum : Run → DaySum
day_sum run =
    record {
      day = run.run.payday;
      cents = record { 0 = run_liability run.run.fit.0 run.run.ss.0 run.run.medicare.0 };
    }

-- the line of an obligation
abbrev pub line_text : Obligation → List ℕ
line_text row = obligation_text row ++ 10 ∷ []

-- the text prints the obligations of a monthly depositor on Form 941 with these sums in the year, a
-- line for each by first day: the year's lookback total is zero, and the account is not carried
pub record Prints (year : ℕ) (holidays : List ℕ) (sums : List DaySum) (text : List ℕ) : Type 0 where
  pub line : YearLine
  pub of_year : line.year ≡ year
  pub no_lookback : line.lookback.0 ≡ 0
  pub not_carried : line.carried ≡ false
  pub scheduled : AreLines sums (line ∷ [])
  pub rows : List Obligation
  pub owed : AreObligations F941 (line ∷ []) sums holidays rows
  pub printed : text ≡ flat_map line_text rows

-- the text of the deposits of the records, of which none is at fault
pub record Deposits (account : List ℕ) (year : ℕ) (holidays : List ℕ) (records : List SaidRun)
    (text : List ℕ) : Type 0 where
  pub none_at_fault : NoneAtFault account year records
  pub counted : List Run
  pub are_counted : AreCounted (taken account year records) counted
  pub prints : Prints year holidays (map day_sum counted) text

-- the records of the text are looked at: it is not too long, the holidays are a calendar, and it
-- has the header
pub record IsLookedAt (csv : List ℕ) (year : ℕ) (holidays : List ℕ) : Type 0 where
  pub short : length csv ≤ MOST_BYTES
  pub calendar : IsCalendar year holidays
  pub header : HasHeader Runs csv

-- where each fault of `plain` stands; want of memory may come at any point
abbrev pub PlainFails : List ℕ → List ℕ → ℕ → List ℕ → PlainFault → Type 0
PlainFails csv account year holidays fault.TooLong = MOST_BYTES < length csv
PlainFails csv account year holidays fault.BadCalendar =
    (length csv ≤ MOST_BYTES) × ¬ IsCalendar year holidays
PlainFails csv account year holidays fault.BadHeader =
    (length csv ≤ MOST_BYTES) × IsCalendar year holidays × ¬ HasHeader Runs csv
PlainFails csv account year holidays (fault.Malformed number field) =
    IsLookedAt csv year holidays
    × FirstFault account year (run_records csv) (fault.Malformed number field)
PlainFails csv account year holidays (fault.RunDiffers number) =
    IsLookedAt csv year holidays
    × FirstFault account year (run_records csv) (fault.RunDiffers number)
PlainFails csv account year holidays fault.TooManyRuns =
    IsLookedAt csv year holidays × FirstFault account year (run_records csv) fault.TooManyRuns
PlainFails csv account year holidays fault.Memory = ⊤

-- what `plain` gives
pub record PlainGives (csv account : List ℕ) (year : ℕ) (holidays text : List ℕ) : Type 0 where
  pub looked_at : IsLookedAt csv year holidays
  pub deposits : Deposits account year holidays (run_records csv) text
