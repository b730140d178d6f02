-- The totals in force, the lookback totals and the liability of one account, by plain values.
use Rattle.std.specs.Prelude.{◌≡◌, ℕ, Bool, not, List, map, filter, All}
use Rattle.ftd_days.specs.declared.cents.Cents.{Cents}
use Rattle.ftd_rules.specs.Lookback.{IsLookback, IsYearLookback}
use Rattle.ftd_rules.specs.declared.Form.{Form}
use Rattle.ftd_rules.specs.declared.Form.TheVariants.{F941, F943}
use Rattle.ftd_rules.specs.declared.DaySum.{DaySum}
use Rattle.ftd_rules.specs.declared.YearLine.{YearLine}
use Rattle.ftd_rules.specs.declared.run.PayRun.{PayRun}
use Rattle.ftd_rules.specs.declared.run.Voidable.{Voidable}
use Rattle.ftd_machine.specs.declared.entries.Account.{Account}
use Rattle.ftd_machine.specs.State.{latest}
use Rattle.ftd_machine.specs.History.{liability_of, AreCarried, year_of_line}
use Rattle.ftd_sound.specs.declared.figures.Figures.{Figures}
use Rattle.ftd_sound.specs.Private.Plain.{amounts_under}

-- the totals in force, each with its quarter or its year
abbrev pub figure_in : List (ℕ × Cents) → ℕ × Cents → ℕ × Cents
figure_in corrected e = (e.0, latest e.1 (amounts_under e.0 corrected))

abbrev pub figures_in : List (ℕ × Cents) → List (ℕ × Cents) → List (ℕ × Cents)
figures_in reported corrected = map (figure_in corrected) reported

-- the total of the lookback period of a year, on this form and from this first day
abbrev pub IsTotalOn : Form → ℕ → Figures → ℕ → Cents → Type 0
IsTotalOn F941 start figures year total = IsLookback figures.quarters.items start year total.0
IsTotalOn F943 start figures year total = IsYearLookback figures.years.items start year total

abbrev pub IsTotal : Account → Figures → ℕ → Cents → Type 0
IsTotal account figures year total = IsTotalOn account.form account.start figures year total

-- each of these years has its lookback total
abbrev pub HaveTotals : Account → Figures → List ℕ → Type 0
HaveTotals account figures years =
    All (λ year. (total : Cents) × IsTotal account figures year total) years

-- the lines of these years, but for their openings and their turns
pub record AreBegun (account : Account) (figures : Figures) (years : List ℕ)
    (lines : List YearLine) : Type 0 where
  pub years_are : map year_of_line lines ≡ years
  pub lookbacks : All (λ (line : YearLine). IsTotal account figures line.year line.lookback) lines
  pub carried : AreCarried account.carried lines

-- the liability of the live runs
abbrev pub is_live_run : ℕ × Voidable PayRun → Bool
is_live_run e = not e.1.voided

abbrev pub sum_of : ℕ × Voidable PayRun → DaySum
sum_of e = liability_of e.1.value

abbrev pub sums_in : List (ℕ × Voidable PayRun) → List DaySum
sums_in runs = map sum_of (filter is_live_run runs)
