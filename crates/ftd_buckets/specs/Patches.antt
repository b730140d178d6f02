-- What a change changes in an account's obligations and years.
use Rattle.ftd_rules.specs.declared.Form.{Form}
use Rattle.std.specs.Prelude.{◌≡◌, ℕ, ◌+◌, ◌<◌, ◌≤◌, ◌⊎◌, ◌↔◌, List}
use Rattle.ftd_rules.specs.declared.DaySum.{DaySum}
use Rattle.ftd_rules.specs.declared.YearLine.{YearLine}
use Rattle.ftd_rules.specs.declared.Obligation.{Obligation}
use Rattle.ftd_rules.specs.Liability.{liability}
use Rattle.ftd_rules.specs.Lists.{Has, KeysRise}
use Rattle.ftd_rules.specs.Obligations.{IsObligation, ByFirstDay}
use Rattle.ftd_buckets.specs.declared.Window.{Window}
use Rattle.ftd_buckets.specs.declared.Patch.{Patch}
use Rattle.ftd_buckets.specs.Histories.{History}
use Rattle.ftd_buckets.specs.Windows.{IsDayPeriod}

-- the sums are those of the history on the days of the window
abbrev pub AreSumsOf : History → Window → List DaySum → Type 0
AreSumsOf h w sums = (a b : ℕ) → w.from ≤ a → b ≤ w.to → liability h.sums a b ≡ liability sums a b

-- o is an obligation of the history
abbrev pub IsOwed : Form → History → List ℕ → Obligation → Type 0
IsOwed form h holidays o = IsObligation form h.lines h.sums holidays o

-- the rows are the obligations that begin on the days from a up to, but without, b
pub record AreRows (form : Form) (h : History) (holidays : List ℕ) (a b : ℕ)
    (rows : List Obligation) : Type 0 where
  pub by_first_day : ByFirstDay rows
  pub all : (o : Obligation)
      → Has rows o ↔ (IsOwed form h holidays o × (a ≤ o.first) × (o.first < b))

-- each line is of an earlier year than those after it
abbrev pub ByYear : List YearLine → Type 0
ByYear lines = KeysRise (λ line. line.year) lines

-- the lines of the history after the change that differ
pub record AreChanged (before after : History) (lines : List YearLine) : Type 0 where
  pub by_year : ByYear lines
  pub all : (line : YearLine)
      → Has lines line ↔ (Has after.lines line × (Has before.lines line → ⊥))

-- the patch has the obligations after the change that begin on its days, and the lines that differ;
-- the obligations that begin on other days stay
pub record Replaces (form : Form) (before after : History) (holidays : List ℕ) (patch : Patch)
    : Type 0 where
  pub rows : AreRows form after holidays patch.from (patch.to + 1) patch.rows
  pub years : AreChanged before after patch.years
  pub elsewhere : (o : Obligation) → (o.first < patch.from) ⊎ (patch.to < o.first)
      → IsOwed form before holidays o ↔ IsOwed form after holidays o

-- so of a change of one day's runs: the patch goes from the day's deposit period before the change
-- to the last window that was fed
pub record IsPatch (form : Form) (day : ℕ) (before after : History) (holidays : List ℕ)
    (fed : Window) (patch : Patch) : Type 0 where
  pub period : Window
  pub is_period : IsDayPeriod form day before period
  pub from : patch.from ≡ period.from
  pub to : patch.to ≡ fed.to
  pub replaces : Replaces form before after holidays patch
