-- The years of an account that open anew, since the lookback total of one of them has changed.
use Rattle.std.specs.Prelude.{◌≡◌, ◌≢◌, ℕ, ◌+◌, ◌≤◌, List, map}
use Rattle.ftd_days.specs.Calendar.{year_start}
use Rattle.ftd_days.specs.declared.cents.Cents.{Cents}
use Rattle.ftd_rules.specs.declared.DaySum.{DaySum}
use Rattle.ftd_rules.specs.declared.Form.{Form}
use Rattle.ftd_rules.specs.declared.YearLine.{YearLine}
use Rattle.ftd_rules.specs.Liability.{liability}
use Rattle.ftd_rules.specs.Lists.{Has}
use Rattle.ftd_rules.specs.Years.{AreOpenYears, HasSchedule, basis_of, year_last}
use Rattle.ftd_buckets.specs.declared.Patch.{Patch}
use Rattle.ftd_buckets.specs.declared.Window.{Window}
use Rattle.ftd_buckets.specs.Histories.{History, IsHistory, TurnOf}
use Rattle.ftd_buckets.specs.Patches.{AreSumsOf, Replaces}
use Rattle.ftd_buckets.specs.Windows.{IsYearOf}
use Rattle.ftd_sql.specs.Standing.{Tables}
use Rattle.ftd_repairs.specs.Repaired.{AreLiveIn}

-- ---- the change

-- the line with another lookback total
abbrev pub with_total : Cents → YearLine → YearLine
with_total total line = record {
  year = line.year;
  lookback = total;
  carried = line.carried;
  opening = line.opening;
  turn = line.turn;
}

-- two histories of the same years, bases and day sums. Before, the year's line has the turn that
-- the day sums give it under its opening, but that may be the opening of another lookback total;
-- each other line has its opening and its turn.
pub record IsReopening (year : ℕ) (before after : History) : Type 0 where
  pub years : AreOpenYears before.lines
  pub turn : (line : YearLine) → Has before.lines line → line.year ≡ year
      → TurnOf (liability before.sums) line
  pub others : (line : YearLine) → Has before.lines line → line.year ≢ year
      → HasSchedule before.lines (liability before.sums) line
  pub is_after : IsHistory after
  pub same_years : map basis_of before.lines ≡ map basis_of after.lines
  pub same_sums : after.sums ≡ before.sums

-- ---- the patch

-- a year from this one on opens otherwise than before
pub record OpensOtherwise (year : ℕ) (before after : History) (old new : YearLine) : Type 0 where
  pub of_year : IsYearOf before after old new
  pub from : year ≤ old.year
  pub differs : old.opening ≢ new.opening

-- the patch goes from the first day of the year on over whole years, each of which opens otherwise
-- than before
pub record IsReopened (form : Form) (year : ℕ) (before after : History) (holidays : List ℕ)
    (patch : Patch) : Type 0 where
  pub from : patch.from ≡ year_start year
  pub some : patch.from ≤ patch.to + 1
  pub needed : (old new : YearLine) → IsYearOf before after old new → year ≤ old.year
      → year_last old.year ≤ patch.to → old.opening ≢ new.opening
  pub replaces : Replaces form before after holidays patch

-- all days of a year
abbrev pub all_year : ℕ → Window
all_year year = record { from = year_start year; to = year_last year }

-- on the days of each year that opens otherwise, the account's live runs are those of the history
-- after the change
abbrev pub YearRunsAre : List ℕ → Tables → ℕ → History → History → Type 0
YearRunsAre account t year before after =
    (old new : YearLine) → OpensOtherwise year before after old new
    → (sums : List DaySum) → AreLiveIn account t (all_year old.year) sums
    → AreSumsOf after (all_year old.year) sums

-- the patch is right for every reopening of the year after which the live runs are those of the
-- tables in these years, and before which these are the account's lines
abbrev pub Reopens : List ℕ → Form → ℕ → List YearLine → List ℕ → Patch → Tables → Type 0
Reopens account form year lines holidays patch t =
    (before after : History) → IsReopening year before after → before.lines ≡ lines
    → YearRunsAre account t year before after
    → IsReopened form year before after holidays patch
