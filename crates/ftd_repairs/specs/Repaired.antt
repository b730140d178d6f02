-- What a repair reads of the tables, and what it answers.
use Rattle.std.specs.Prelude.{◌≡◌, ◌≤◌, ℕ, List, filter}
use Rattle.ftd_rules.specs.Liability.{liability}
use Rattle.ftd_rules.specs.declared.DaySum.{DaySum}
use Rattle.ftd_rules.specs.declared.Form.{Form}
use Rattle.ftd_rules.specs.declared.YearLine.{YearLine}
use Rattle.ftd_buckets.specs.declared.Window.{Window}
use Rattle.ftd_buckets.specs.declared.Patch.{Patch}
use Rattle.ftd_buckets.specs.Histories.{History, IsChange, AreLast}
use Rattle.ftd_buckets.specs.Windows.{IsNeeded, IsLastNeeded}
use Rattle.ftd_buckets.specs.Patches.{AreSumsOf, IsPatch}
use Rattle.ftd_sql.specs.declared.TableName.TheVariants.{Runs}
use Rattle.ftd_sql.specs.Standing.{Tables}
use Rattle.ftd_sql.specs.Orders.{RunsRise}
use Rattle.ftd_sql.specs.Tests.{is_live_run_between}
use Rattle.ftd_store.specs.Cells.{day_number}
use Rattle.ftd_store.specs.DaySums.{ListsDaySums}

-- these are the day sums of the account's live runs with a payday in the window
abbrev pub AreLiveIn : List ℕ → Tables → Window → List DaySum → Type 0
AreLiveIn account t w sums =
    ListsDaySums RunsRise account
    (filter (is_live_run_between account (day_number w.from) (day_number w.to)) (t Runs)) sums

-- on the days of the window these have the liability of all the sums
abbrev pub AreWithin : Window → List DaySum → List DaySum → Type 0
AreWithin w all sums =
    (a b : ℕ) → w.from ≤ a → b ≤ w.to → liability all a b ≡ liability sums a b

-- on the days of each window that is needed, the account's live runs are those of the history
-- after the change
abbrev pub RunsAre : List ℕ → Form → Tables → ℕ → History → History → Type 0
RunsAre account form t day before after =
    (w : Window) → IsNeeded form day before after w
    → (sums : List DaySum) → AreLiveIn account t w sums → AreSumsOf after w sums

-- the patch is right for every change of the day's runs after which the live runs are told so, and
-- before which the years ended with these lines
abbrev pub IsRightWhere : (History → History → Type 0) → Form → ℕ → List YearLine → List ℕ → Patch
    → Type 0
IsRightWhere AreTold form day lines holidays patch =
    (before after : History) → IsChange day before after → AreLast before lines
    → AreTold before after
    → (last : Window) × IsPatch form day before after holidays last patch
    × IsLastNeeded form day before after last

-- so where the live runs are those of the tables in the windows that are needed
abbrev pub Repairs : List ℕ → Form → ℕ → List YearLine → List ℕ → Patch → Tables → Type 0
Repairs account form day lines holidays patch t =
    IsRightWhere (RunsAre account form t day) form day lines holidays patch

-- these are the day sums after the change, on the days of each window that is needed
abbrev pub SumsAre : Form → ℕ → List DaySum → History → History → Type 0
SumsAre form day sums before after =
    (w : Window) → IsNeeded form day before after w → AreSumsOf after w sums

-- so where these are the day sums there
abbrev pub RepairsBy : Form → ℕ → List DaySum → List YearLine → List ℕ → Patch → Type 0
RepairsBy form day sums = IsRightWhere (SumsAre form day sums) form day
