-- The correction of a figure, and what follows from it.
use Rattle.std.specs.Prelude.{◌≡◌, ◌⊎◌, ◌≤◌, ◌+◌, ℕ, Bool, true, List, [], length, Ok, Vec}
use Rattle.ftd_days.specs.declared.limits.TheConstants.{FIRST_YEAR, LAST_OPEN_YEAR}
use Rattle.ftd_days.specs.declared.cents.Cents.{Cents}
use Rattle.ftd_rules.specs.Lists.{Has}
use Rattle.ftd_rules.specs.Lookback.{lookback_quarters}
use Rattle.ftd_sql.specs.Standing.{Tables}
use Rattle.ftd_store.specs.declared.correction_cells.Correction.{Correction}
use Rattle.ftd_store.specs.Changes.{with_correction, with_year_correction}
use Rattle.ftd_store.specs.Corrections.{ListsCorrections, ListsYearCorrections}
use Rattle.ftd_machine.specs.State.{State, entries_of, numbered, corrections_at}
use Rattle.ftd_machine.specs.declared.entries.Account.{Account}
use Rattle.ftd_machine.specs.declared.entries.ReturnPeriod.{ReturnPeriod}
use Rattle.ftd_machine.specs.declared.entries.ReturnPeriod.TheVariants.{Quarter, Year}
use Rattle.ftd_entries.specs.Known.{FindsTotal, KnowsAccount, HasForm, KnowsYear}
use Rattle.ftd_entries.specs.Standing.{StandsFor}
use Rattle.ftd_entries.specs.Totals.{KnowsTotal}
use Rattle.ftd_machine.specs.declared.replies.Difference.{Difference}
use Rattle.ftd_repairs.specs.Reopened.{IsRetotaled}
use Rattle.ftd_posting.specs.declared.correcting.KnownForTotal.{KnownForTotal}

-- ---- what is known before

-- the corrections of a total: the one of the number, and how many there are, in each state for
-- which the tables stand
pub record KnowsCorrected (number : ℕ) (before : KnownForTotal) (kept : State → List Cents)
    (t : Tables) : Type 0 where
  pub known : (s : State) → StandsFor t s → numbered number (kept s) ≡ before.known
  pub count : (s : State) → StandsFor t s → length (kept s) ≡ before.count

-- the account and its form, the total of the period as it was first reported and its corrections,
-- and whether the year is open
pub record KnowsForTotal (name : List ℕ) (period : ReturnPeriod) (number year : ℕ)
    (before : KnownForTotal) (t : Tables) : Type 0 where
  pub account : KnowsAccount name before.account t
  pub form : HasForm name before.account t
  pub reported : FindsTotal name period before.reported t
  pub corrected : KnowsCorrected number before (λ s. corrections_at (entries_of s name) period) t
  pub is_open : KnowsYear name year before.is_open t

-- the corrections of the total, by number
abbrev pub ListsCorrectionsOf
    : {A : Type 0} → List ℕ → ReturnPeriod → Vec Correction A → Tables → Type 0
ListsCorrectionsOf name (Quarter quarter) = ListsCorrections name quarter
ListsCorrectionsOf name (Year year) = ListsYearCorrections name year

-- ---- what is entered

-- the quarter is one of the lookback period of no other year
abbrev pub IsOnlyYearOf : ℕ → ℕ → Type 0
IsOnlyYearOf quarter year =
    (other : ℕ) → FIRST_YEAR ≤ other → Has (lookback_quarters other) quarter → other ≡ year

-- the year in whose lookback period the total of a period counts, and in that of no other
abbrev pub IsCountedIn : ReturnPeriod → ℕ → Type 0
IsCountedIn (Quarter quarter) year = IsOnlyYearOf quarter year
IsCountedIn (Year reported) year = year ≡ reported + 2

-- one more correction of the total
abbrev pub with_corrected : List ℕ → ReturnPeriod → Correction → Tables → Tables
with_corrected name (Quarter quarter) correction = with_correction name quarter correction
with_corrected name (Year year) correction = with_year_correction name year correction

-- no obligation was removed, none was added, and no year is on another schedule
abbrev pub unchanged : ℕ → Difference
unchanged first = record { from = first; to = first; removed = []; added = []; years = [] }

-- the year may be open, and is
abbrev pub IsFollowed : Bool → ℕ → Type 0
IsFollowed is_open year = (is_open ≡ true) × (FIRST_YEAR ≤ year) × (year ≤ LAST_OPEN_YEAR)

-- it is entered. Where the year is open, it gets the lookback total that it has then, and the
-- account's rows are repaired after that; else no other row changes.
abbrev pub EntersTotal : List ℕ → Account → Bool → ℕ → ℕ → (Tables → Tables) → Difference → Tables
    → Tables → Type 0
EntersTotal name account is_open first year entered difference old new =
    ((IsFollowed is_open year → ⊥) × (new ≡ entered old) × (difference ≡ unchanged first))
    ⊎ (IsFollowed is_open year
    × ((total : Cents) × KnowsTotal name account year (Ok total) (entered old)
    × IsRetotaled name account.form first year total (entered old) new difference))
