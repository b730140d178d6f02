-- What is known of the years that open anew while they are read, and what is made of it.
use Rattle.std.specs.Prelude.{◌≡◌, ◌++◌, ℕ, ◌+◌, List, [], ◌∷◌, is_some, IsTrue}
use Rattle.ftd_days.specs.Calendar.{year_start}
use Rattle.ftd_rules.specs.declared.DaySum.{DaySum}
use Rattle.ftd_rules.specs.declared.Form.{Form}
use Rattle.ftd_rules.specs.declared.Obligation.{Obligation}
use Rattle.ftd_rules.specs.declared.YearLine.{YearLine}
use Rattle.ftd_rules.specs.Liability.{liability}
use Rattle.ftd_rules.specs.Years.{basis_of, year_last}
use Rattle.ftd_rules.specs.Private.Walk.{due_date, AreOwed, periods}
use Rattle.ftd_rules.specs.Private.Years.{IsScheduled, semiweekly_from}
use Rattle.ftd_buckets.specs.declared.Patch.{Patch}
use Rattle.ftd_sql.specs.Standing.{Tables}
use Rattle.ftd_repairs.specs.declared.reopening.Anew.{Anew}
use Rattle.ftd_repairs.specs.declared.reopening.Replacement.{Replacement}
use Rattle.ftd_repairs.specs.Repaired.{AreLiveIn}
use Rattle.ftd_repairs.specs.Replaced.{AreBetween}
use Rattle.ftd_repairs.specs.Reopening.{Reopens, all_year}

-- ---- one year more

-- the obligations of the year by these day sums come to the rows, and its line to the lines; the
-- year before has a turn where that is known of it
pub record AddsYear (form : Form) (line : YearLine) (holidays : List ℕ) (sums : List DaySum)
    (known later : Anew) : Type 0 where
  pub new : YearLine
  pub basis : basis_of new ≡ basis_of line
  pub schedule : IsScheduled (IsTrue known.turned) (liability sums) new
  pub added : List Obligation
  pub owed : AreOwed (due_date holidays) (liability sums) (periods form (semiweekly_from new))
      (year_start new.year) (year_last new.year + 1) added
  pub rows : later.rows.items ≡ known.rows.items ++ added
  pub years : later.years.items ≡ known.years.items ++ new ∷ []
  pub turned : later.turned ≡ is_some new.turn
  pub to : later.to ≡ year_last line.year

-- so by the day sums of the account's live runs
pub record AddsYearOf (account : List ℕ) (form : Form) (line : YearLine) (holidays : List ℕ)
    (known later : Anew) (t : Tables) : Type 0 where
  pub sums : List DaySum
  pub are_live : AreLiveIn account t (all_year line.year) sums
  pub adds : AddsYear form line holidays sums known later

-- ---- the rows that are replaced

-- the patch is made of what is known of the years from this day on
pub record IsPatchFrom (from : ℕ) (known : Anew) (patch : Patch) : Type 0 where
  pub from_is : patch.from ≡ from
  pub to_is : patch.to ≡ known.to
  pub rows_are : patch.rows ≡ known.rows.items
  pub years_are : patch.years ≡ known.years.items

-- these are the account's rows on the days of the patch
abbrev pub HasGone : List ℕ → Replacement → Tables → Type 0
HasGone account r t = AreBetween account r.patch.from r.patch.to r.gone.items t

abbrev pub ReplacesFrom : List ℕ → ℕ → Anew → Replacement → Tables → Type 0
ReplacesFrom account from known r t = IsPatchFrom from known r.patch × HasGone account r t

abbrev pub ReopensRows : List ℕ → Form → ℕ → List YearLine → List ℕ → Replacement → Tables
    → Type 0
ReopensRows account form year lines holidays r t =
    Reopens account form year lines holidays r.patch t × HasGone account r t
