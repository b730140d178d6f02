-- What a repair has answered.
use Rattle.ftd_rules.specs.declared.Form.{Form}
use Rattle.std.specs.Prelude.{◌≡◌, ℕ, ◌+◌, ◌<◌, ◌≤◌, List, ◌∷◌}
use Rattle.std.specs.List.{sum_by, All}
use Rattle.ftd_rules.specs.declared.DaySum.{DaySum}
use Rattle.ftd_rules.specs.declared.YearLine.{YearLine}
use Rattle.ftd_rules.specs.Liability.{cents_of}
use Rattle.ftd_rules.specs.Years.{year_last, AreOpenYears}
use Rattle.ftd_buckets.specs.declared.Window.{Window}
use Rattle.ftd_days.specs.Business.{holidays_end}
use Rattle.ftd_days.specs.Holidays.{holidays_of}
use Rattle.ftd_buckets.specs.declared.state.Progress.{Progress}
use Rattle.ftd_buckets.specs.declared.state.Next.{Next}
use Rattle.ftd_buckets.specs.declared.state.Next.TheVariants.{Done, Need}
use Rattle.ftd_buckets.specs.Histories.{History, TurnsWithin}
use Rattle.ftd_buckets.specs.Windows.{IsNext, NoneAfter}
use Rattle.ftd_buckets.specs.Patches.{AreSumsOf, IsPatch, AreRows}
use Rattle.ftd_buckets.specs.Ready.{Repairing}
use Rattle.ftd_buckets.specs.Standing.{Stands, StandsIn, amount_held}

-- the answer is right for the histories
abbrev pub Serves : Form → ℕ → List ℕ → History → History → Window → Next → Type 0
Serves form day holidays before after asked (Done patch) =
    IsPatch form day before after holidays asked patch × NoneAfter form day before after asked
Serves form day holidays before after asked (Need repair window) =
    Stands form day holidays before after repair × IsNext form day before after asked window

-- what it holds and asks for, whatever the histories are
abbrev pub Holds : Form → ℕ → Next → Type 0
Holds form bound (Done patch) = Unit {0}
Holds form bound (Need repair window) =
    (repair.asked ≡ window) × (amount_held repair ≤ bound) × (repair.form ≡ form)

-- the answer to the day sums fed
pub record Answers (r : Repairing) (sums : List DaySum) (next : Next) : Type 0 where
  pub holds : Holds r.form (amount_held r + sum_by cents_of sums) next
  pub serves : (day : ℕ) (holidays : List ℕ) (before after : History)
      → Stands r.form day holidays before after r → AreSumsOf after r.asked sums
      → Serves r.form day holidays before after r.asked next

-- a repair may go on from the end of the first line's year to the next year
pub record IsAtYearEnd (lines : List YearLine) (to year : ℕ) : Type 0 where
  pub line : YearLine
  pub later : List YearLine
  pub lines_are : lines ≡ line ∷ later
  pub years : AreOpenYears lines
  pub turns : All TurnsWithin lines
  pub is_to : to ≡ year_last line.year
  pub same : year ≡ line.year

-- all up to the end of that year is settled, and `new` is its line after the change, which differs
pub record IsSettledYear (form : Form) (day : ℕ) (holidays : List ℕ) (before after : History)
    (s : Progress) (new : YearLine) : Type 0 where
  pub old : YearLine
  pub common : StandsIn form day holidays before after s.lines.now s.from s.years.items old new
  pub calendar : holidays_of s.holidays.now ≡ holidays
  pub known : All (λ d. d < holidays_end) holidays
  pub differs : new ≡ old → ⊥
  pub day_before : day ≤ year_last old.year
  pub rows : AreRows form after holidays s.from (year_last old.year + 1) s.rows.items
