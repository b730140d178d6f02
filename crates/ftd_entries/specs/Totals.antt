-- The lookback total of a year, or which figure of its lookback period is missing.
use Rattle.std.specs.Prelude.{◌≡◌, ◌-◌, ℕ, List, [], ◌∷◌, ◌++◌, Option, None, Some, Result, Ok, Err}
use Rattle.ftd_days.specs.declared.cents.Cents.{Cents}
use Rattle.ftd_rules.specs.Lookback.{IsLookback, IsFirstMissing, IsYearLookback, IsYearMissing}
use Rattle.ftd_rules.specs.Lookback.{AreReportedOnce}
use Rattle.ftd_sql.specs.Standing.{Tables}
use Rattle.ftd_machine.specs.declared.entries.Account.{Account}
use Rattle.ftd_machine.specs.State.{State, Entries, entries_of}
use Rattle.ftd_machine.specs.History.{quarter_figures, year_figures, HasLookback, LacksFigure}
use Rattle.ftd_machine.specs.declared.replies.Refusal.{Refusal}
use Rattle.ftd_machine.specs.declared.replies.Refusal.TheVariants.{QuarterMissing, YearMissing}
use Rattle.ftd_entries.specs.Standing.{KeepsFigures}

-- on Form 941 the total by these figures, or the refusal that names the earliest quarter that is
-- missing
abbrev pub IsTotalOn941 : List (ℕ × Cents) → ℕ → ℕ → Result Cents Refusal → Type 0
IsTotalOn941 reported start year (Ok total) = IsLookback reported start year total.0
IsTotalOn941 reported start year (Err refusal) =
    (quarter : ℕ) × IsFirstMissing reported start year quarter × (refusal ≡ QuarterMissing quarter)

-- on Form 943 the total by these figures, or the refusal that names the year that is missing
abbrev pub IsTotalOn943 : List (ℕ × Cents) → ℕ → ℕ → Result Cents Refusal → Type 0
IsTotalOn943 reported start year (Ok total) = IsYearLookback reported start year total
IsTotalOn943 reported start year (Err refusal) =
    (missing : ℕ) × IsYearMissing reported start year missing × (refusal ≡ YearMissing missing)

-- the figure that was found for a quarter or a year, if one was, as a list
abbrev pub as_figures : ℕ → Option Cents → List (ℕ × Cents)
as_figures key None = []
as_figures key (Some cents) = (key, cents) ∷ []

-- the figures that were found, each for its quarter
abbrev pub figures_found : List (ℕ × Option Cents) → List (ℕ × Cents)
figures_found [] = []
figures_found (found ∷ more) = as_figures found.0 found.1 ++ figures_found more

-- the figure of the second year before
abbrev pub figure_before : ℕ → Option Cents → List (ℕ × Cents)
figure_before year found = figures_found ((year - 2, found) ∷ [])

-- no figure of the account is reported twice
abbrev pub AreFiguresOnce : Entries → Type 0
AreFiguresOnce own = AreReportedOnce (quarter_figures own) × AreReportedOnce (year_figures own)

-- this is so by the figures of each state of which the tables have these and their corrections
abbrev pub KnowsTotalOn941 : List ℕ → ℕ → ℕ → Result Cents Refusal → Tables → Type 0
KnowsTotalOn941 name start year total t =
    (s : State) → KeepsFigures t s → AreFiguresOnce (entries_of s name)
    → IsTotalOn941 (quarter_figures (entries_of s name)) start year total

abbrev pub KnowsTotalOn943 : List ℕ → ℕ → ℕ → Result Cents Refusal → Tables → Type 0
KnowsTotalOn943 name start year total t =
    (s : State) → KeepsFigures t s → AreFiguresOnce (entries_of s name)
    → IsTotalOn943 (year_figures (entries_of s name)) start year total

-- the total of the account's lookback period of the year, or the refusal that names what is missing
abbrev pub IsTotal : Entries → ℕ → Result Cents Refusal → Type 0
IsTotal own year (Ok total) = HasLookback own year total
IsTotal own year (Err refusal) = LacksFigure own year refusal

-- so of each state of which the tables have the figures, and in which the account is this one
abbrev pub KnowsTotal : List ℕ → Account → ℕ → Result Cents Refusal → Tables → Type 0
KnowsTotal name account year total t =
    (s : State) → KeepsFigures t s → AreFiguresOnce (entries_of s name)
    → (entries_of s name).account ≡ Some account
    → IsTotal (entries_of s name) year total
