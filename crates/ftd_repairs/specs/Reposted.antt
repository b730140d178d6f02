-- A change of an account's runs of one day, and the repair of its rows.
use Rattle.std.specs.Prelude.{◌≡◌, ℕ, ◌+◌, List}
use Rattle.std.specs.Global.{Vec}
use Rattle.ftd_days.specs.Holidays.{holidays_of}
use Rattle.ftd_rules.specs.Liability.{liability, share}
use Rattle.ftd_rules.specs.declared.DaySum.{DaySum}
use Rattle.ftd_rules.specs.declared.Form.{Form}
use Rattle.ftd_rules.specs.declared.run.PayRun.{PayRun}
use Rattle.ftd_rules.specs.declared.YearLine.{YearLine}
use Rattle.ftd_buckets.specs.declared.Patch.{Patch}
use Rattle.ftd_buckets.specs.declared.Window.{Window}
use Rattle.ftd_sql.specs.Standing.{Tables}
use Rattle.ftd_store.specs.Finds.{ListsYears, ListsLiability}
use Rattle.ftd_machine.specs.History.{liability_of}
use Rattle.ftd_machine.specs.Posting.{AreOnOtherSchedules}
use Rattle.ftd_machine.specs.declared.replies.Difference.{Difference}
use Rattle.ftd_repairs.specs.declared.ledgers.Ledger.{Ledger}
use Rattle.ftd_repairs.specs.declared.reading.KnownYears.{KnownYears}
use Rattle.ftd_repairs.specs.Repaired.{Repairs, RepairsBy}
use Rattle.ftd_repairs.specs.Calendars.{HasHolidaysFrom, KnowsYears}
use Rattle.ftd_repairs.specs.Replaced.{AreBetween, ComparesRows, HasObligations, patched}
use Rattle.ftd_repairs.specs.Rescheduled.{HasLines, PutsPatch, PutsInto}

-- the patch was put in place, by which these are the account's lines now, and it is told how the
-- obligations differ, and which lines are on another schedule
pub record Places (account : List ℕ) (day : ℕ) (lines : List YearLine) (patch : Patch)
    (lines_after : List YearLine) (difference : Difference) (old new : Tables) : Type 0 where
  pub compared : ComparesRows account day patch.from patch.to patch.rows difference old
  pub put : PutsInto account lines patch lines_after old new
  pub years : AreOnOtherSchedules lines lines_after difference.years

-- a patch was put in place that is right, and it is told how the obligations differ, and which
-- lines are on another schedule
pub record Repatches (account : List ℕ) (day : ℕ) (lines : List YearLine)
    (IsRight : Patch → Type 0) (difference : Difference) (old new : Tables) : Type 0 where
  pub patch : Patch
  pub right : IsRight patch
  pub compared : ComparesRows account day patch.from patch.to patch.rows difference old
  pub put : PutsPatch account lines patch old new
  pub years : AreOnOtherSchedules lines put.after difference.years

-- so by what was read before the change, where the lines are the account's still
abbrev pub RepairsRows : List ℕ → Form → ℕ → KnownYears → Difference → Tables → Tables → Type 0
RepairsRows account form day known difference old new =
    let lines : List YearLine = known.lines.items in
    HasLines account lines old
    → Repatches account day lines
    (λ patch. Repairs account form day lines (holidays_of known.holidays) patch old)
    difference old new

-- the account's rows were repaired after its runs of the day had changed: by its lines and the
-- holidays as they stood before
pub record IsReposted (account : List ℕ) (form : Form) (day : ℕ) (old changed new : Tables)
    (difference : Difference) : Type 0 where
  pub lines : Vec YearLine
  pub listed : ListsYears account lines old
  pub holidays : List ℕ
  pub read : HasHolidaysFrom day lines.items holidays old
  pub repatches : Repatches account day lines.items
      (λ patch. Repairs account form day lines.items holidays patch changed) difference changed new

-- the ledger was read of the account: its open years and the holidays, and its liability and its
-- obligations of these days
pub record KnowsLedger (account : List ℕ) (days : Window) (ledger : Ledger) (t : Tables)
    : Type 0 where
  pub years : KnowsYears account days.from ledger.years t
  pub since : ledger.since ≡ days.from
  pub sums : ListsLiability account days.from days.to ledger.sums t
  pub rows : AreBetween account days.from days.to ledger.rows.items t

-- the ledger is the account's: it has the rows of its open years, and its obligations
pub record IsLedger (account : List ℕ) (ledger : Ledger) (t : Tables) : Type 0 where
  pub lines : HasLines account ledger.years.lines.items t
  pub rows : HasObligations account ledger.since ledger.rows.items t

-- the patch is right by the lines and the holidays of the ledger before, and the sums of that after
abbrev pub IsRightBy : Form → ℕ → Ledger → Ledger → Patch → Type 0
IsRightBy form day before after =
    RepairsBy form day after.sums.items before.years.lines.items (holidays_of before.years.holidays)

-- the account's rows were repaired by its ledger, which has its lines and its obligations now
pub record IsRepostedBy (account : List ℕ) (form : Form) (day : ℕ) (before after : Ledger)
    (difference : Difference) (changed new : Tables) : Type 0 where
  pub repatches : Repatches account day before.years.lines.items (IsRightBy form day before after)
      difference changed new
  pub lines_are : after.years.lines.items ≡ repatches.put.after
  pub rows_are : after.rows.items ≡ patched repatches.patch.from repatches.patch.to
      before.rows.items repatches.patch.rows

-- the run is among those of which these are the day sums, and was not among those before
abbrev pub AddsRun : PayRun → List DaySum → List DaySum → Type 0
AddsRun run old new =
    (from to : ℕ) → liability new from to ≡ liability old from to + share from to (liability_of run)
